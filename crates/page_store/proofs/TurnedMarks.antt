-- Marks are turned, part after part and block after block.
use Rattle.std.proofs.Common.{◌≡◌, ◌≢◌, inl, inr, ℕ, ◌+◌, ◌*◌, ◌/◌, ◌<◌, ◌≤◌, Bool, true, false, not, cond, List, length, take, IsTrue}
use Rattle.std.proofs.Common.{refl, sym, ◌∙◌, ap, subst, arith}
use Rattle.std.proofs.lemmas.List.{get_or-set_same, get_or-set_other, length-set, get_or_past, get_or-take, length-take}
use Rattle.std.proofs.lemmas.Bool.{cases_lt, cases_eq}
use Rattle.std.specs.Prelude.{slice_set}
use Rattle.page_store.specs.Blocks.{noted_at, AreBlocksNoted, ArePartTurned, AreBlocksTurned}
use Rattle.page_store.specs.declared.marks.Mark.{Mark}
use Rattle.page_store.specs.declared.marks.Mark.TheVariants.{Committed, Waiting, Fresh, Released, Free, Past}
use Rattle.page_store.specs.declared.holds.Holders.{Holders}
use Rattle.page_store.specs.Holds.{any, holders_at}
use Rattle.page_store.specs.Marks.{mark, rests, turned, committed, left, AreCut, AreLeft}

-- a turn leaves a page as it is with which nothing is going on
abbrev pub IsIdle : (ℕ → Mark → Mark) → Type 0
IsIdle turn = (p : ℕ) (m : Mark) → IsTrue (rests m) → turn p m ≡ m

pub turned_idle : (f r w : Mark) → IsIdle (λ p m. turned f r w m)
turned_idle f r w p Committed is = refl
turned_idle f r w p Waiting is = cc
turned_idle f r w p Fresh is = cc
turned_idle f r w p Released is = cc
turned_idle f r w p Free is = refl
turned_idle f r w p Past is = refl

pub committed_idle : (holders : List Holders) → IsIdle (λ p m. committed (holders_at holders p) m)
committed_idle holders p Committed is = refl
committed_idle holders p Waiting is = cc
committed_idle holders p Fresh is = cc
committed_idle holders p Released is = cc
committed_idle holders p Free is = refl
committed_idle holders p Past is = refl

past_or_free : (b : Bool) → IsTrue (rests (cond b Past Free))
past_or_free true = refl
past_or_free false = refl

left_rests : (h : Holders) (m : Mark) → IsTrue (rests m) → IsTrue (rests (left h m))
left_rests h Committed is = refl
left_rests h Waiting is = cc
left_rests h Fresh is = cc
left_rests h Released is = cc
left_rests h Free is = refl
left_rests h Past is = past_or_free (any h)

-- nothing is going on after the last page
pub past_rests : (marks : List Mark) (p : ℕ) → length marks ≤ p → IsTrue (rests (mark marks p))
past_rests marks p past = subst (λ (m : Mark). IsTrue (rests m)) (sym (get_or_past marks p Committed past)) refl

-- nor with a page that has the same mark as one with which nothing is
pub rests_same : (m n : Mark) → n ≡ m → IsTrue (rests m) → IsTrue (rests n)
rests_same m n same is = subst (λ (k : Mark). IsTrue (rests k)) (sym same) is

-- a mark at which nothing goes on
pub is_rest : (b : Bool) → not b ≡ false → b ≡ true
is_rest true none = refl
is_rest false none = cc

-- no page is turned
pub part_none : (turn : ℕ → Mark → Mark) (at : ℕ) (marks : List Mark) → ArePartTurned turn at at false marks marks
part_none turn at marks = record {
  same_length = refl;
  here = λ p low high. absurd (omega (arith, low, high));
  below = λ p low. refl;
  behind = λ p high. refl;
  rest = λ none p low high. absurd (omega (arith, low, high));
}

-- one part is turned, and then the part after it
pub part_then : (turn : ℕ → Mark → Mark) (from mid upto : ℕ) (one other both : Bool) (old between new : List Mark) → from ≤ mid → mid ≤ upto
    → (both ≡ false → one ≡ false) → (both ≡ false → other ≡ false) → ArePartTurned turn from mid one old between
    → ArePartTurned turn mid upto other between new → ArePartTurned turn from upto both old new
part_then turn from mid upto one other both old between new before after is_one is_other first second = record {
  same_length = second.same_length ∙ first.same_length;
  here = λ p low high. elim (cases_lt p mid) [
    | inl early ↦ second.below p early ∙ first.here p low early
    | inr late ↦ second.here p late high ∙ ap (turn p) (first.behind p late)
  ];
  below = λ p low. second.below p (omega (arith, low, before)) ∙ first.below p low;
  behind = λ p high. second.behind p high ∙ first.behind p (omega (arith, high, after));
  rest = λ none p low high. elim (cases_lt p mid) [
    | inl early ↦ rests_same (mark between p) (mark new p) (second.below p early) (first.rest (is_one none) p low early)
    | inr late ↦ second.rest (is_other none) p late high
  ];
}

-- nothing is going on with these pages, so they are turned as they are
pub part_idle : (turn : ℕ → Mark → Mark) (from upto : ℕ) (marks : List Mark) → IsIdle turn
    → ((p : ℕ) → from ≤ p → p < upto → IsTrue (rests (mark marks p))) → ArePartTurned turn from upto false marks marks
part_idle turn from upto marks idle rest = record {
  same_length = refl;
  here = λ p low high. sym (idle p (mark marks p) (rest p low high));
  below = λ p low. refl;
  behind = λ p high. refl;
  rest = λ none. rest;
}

-- the pages that there are of a block were turned, so the block is
pub part_done : (turn : ℕ → Mark → Mark) (from upto end : ℕ) (goes_on : Bool) (old new : List Mark) → IsIdle turn → from ≤ end → end ≤ upto
    → (end < upto → length old ≤ end) → ArePartTurned turn from end goes_on old new → ArePartTurned turn from upto goes_on old new
part_done turn from upto end goes_on old new idle before after past part =
    part_then turn from end upto goes_on false goes_on old new new before after (λ none. none) (λ none. refl) part
    (part_idle turn end upto new idle (λ p low high. past_rests new p (omega (arith, part.same_length, past (omega (arith, low, high)), low))))

-- one page is turned
pub part_page : (turn : ℕ → Mark → Mark) (at : ℕ) (now : Mark) (goes_on : Bool) (old : List Mark) → at < length old → now ≡ turn at (mark old at)
    → (goes_on ≡ false → IsTrue (rests now)) → ArePartTurned turn at (at + 1) goes_on old (slice_set old at now)
part_page turn at now goes_on old within is rest = record {
  same_length = length-set old at now;
  here = λ p low high. subst (λ (q : ℕ). mark (slice_set old at now) q ≡ turn q (mark old q)) (it p low high)
      (get_or-set_same old at now Committed within ∙ is);
  below = λ p low. get_or-set_other old at p now Committed (omega (arith, low));
  behind = λ p high. get_or-set_other old at p now Committed (omega (arith, high));
  rest = λ none p low high. subst (λ (q : ℕ). IsTrue (rests (mark (slice_set old at now) q))) (it p low high)
      (rests_same now (mark (slice_set old at now) at) (get_or-set_same old at now Committed within) (rest none));
}
  where
    it : (p : ℕ) → at ≤ p → p < at + 1 → at ≡ p
    it p low high = omega (arith, low, high)

-- no block is gone through yet
pub blocks_none : (turn : ℕ → Mark → Mark) (start : List Mark) (first : List Bool) → AreBlocksNoted start first → AreBlocksTurned turn 0 start first start first
blocks_none turn start first of = record {
  same_length = refl;
  done = λ p low. absurd (omega (arith, low));
  ahead = λ p high. refl;
  same_blocks = refl;
  unseen = λ k high. refl;
  rest = λ p low none. absurd (omega (arith, low));
}

-- the block of a page
in_block : (b p : ℕ) → 256 * b ≤ p → p < 256 * b + 256 → p / 256 ≡ b
in_block b p low high = omega (arith, low, high)

before_block : (b p : ℕ) → p < 256 * b → p / 256 ≢ b
before_block b p low = omega (arith, low)

module _ (turn : ℕ → Mark → Mark) (block : ℕ) (start : List Mark) (first : List Bool) (marks : List Mark) (noted : List Bool) (of : AreBlocksNoted start first)
    (so_far : AreBlocksTurned turn block start first marks noted) where
  -- nothing is going on in the next block where it is not noted
  pub next_rests : noted_at noted block ≡ false → (p : ℕ) → 256 * block ≤ p → p < 256 * block + 256 → IsTrue (rests (mark marks p))
  next_rests none p low high = rests_same (mark start p) (mark marks p) (so_far.ahead p low)
      (of.rest p (ap (noted_at first) (in_block block p low high) ∙ sym (so_far.unseen block (omega arith)) ∙ none))

  -- one block more
  pub blocks_more : (goes_on : Bool) (next : List Mark) → block < length first → ArePartTurned turn (256 * block) (256 * block + 256) goes_on marks next
      → AreBlocksTurned turn (block + 1) start first next (slice_set noted block goes_on)
  blocks_more goes_on next within part = record {
    same_length = part.same_length ∙ so_far.same_length;
    done = λ p low. elim (cases_lt p (256 * block)) [
      | inl early ↦ part.below p early ∙ so_far.done p early
      | inr late ↦ part.here p late (omega (arith, low)) ∙ ap (turn p) (so_far.ahead p late)
    ];
    ahead = λ p high. part.behind p (omega (arith, high)) ∙ so_far.ahead p (omega (arith, high));
    same_blocks = length-set noted block goes_on ∙ so_far.same_blocks;
    unseen = λ k high. get_or-set_other noted block k goes_on false (omega (arith, high)) ∙ so_far.unseen k (omega (arith, high));
    rest = λ p low none. elim (cases_lt p (256 * block)) [
      | inl early ↦ rests_same (mark marks p) (mark next p) (part.below p early)
          (so_far.rest p early (sym (get_or-set_other noted block (p / 256) goes_on false (before_block block p early)) ∙ none))
      | inr late ↦ part.rest (ended p late (omega (arith, low)) none) p late (omega (arith, low))
    ];
  }
    where
      ended : (p : ℕ) → 256 * block ≤ p → p < 256 * block + 256 → noted_at (slice_set noted block goes_on) (p / 256) ≡ false → goes_on ≡ false
      ended p low high none = sym (get_or-set_same noted block goes_on false (omega (arith, within, so_far.same_blocks)))
          ∙ ap (noted_at (slice_set noted block goes_on)) (sym (in_block block p low high)) ∙ none

  module _ (idle : IsIdle turn) (end : length first ≤ block) where
    past : (p : ℕ) → 256 * block ≤ p → length start ≤ p
    past p high = omega (arith, high, end, of.room)

    -- all pages have their new marks
    pub blocks_all : (p : ℕ) → mark marks p ≡ turn p (mark start p)
    blocks_all p = elim (cases_lt p (256 * block)) [
      | inl low ↦ so_far.done p low
      | inr high ↦ so_far.ahead p high ∙ sym (idle p (mark start p) (past_rests start p (past p high)))
    ]

    -- and what goes on is noted
    pub blocks_noted : AreBlocksNoted marks noted
    blocks_noted = record {
      room = omega (arith, so_far.same_length, so_far.same_blocks, of.room);
      few = omega (arith, so_far.same_blocks, of.few);
      rest = λ p none. elim (cases_lt p (256 * block)) [
        | inl low ↦ so_far.rest p low none
        | inr high ↦ past_rests marks p (omega (arith, so_far.same_length, past p high))
      ];
    }

-- a page is marked, and its block noted
pub put_noted : (marks : List Mark) (noted : List Bool) (page : ℕ) (now : Mark) → page < length marks → AreBlocksNoted marks noted
    → AreBlocksNoted (slice_set marks page now) (slice_set noted (page / 256) true)
put_noted marks noted page now within of = record {
  room = omega (arith, length-set marks page now, length-set noted (page / 256) true, of.room);
  few = omega (arith, length-set noted (page / 256) true, of.few);
  rest = λ p none. elim (cases_eq (p / 256) (page / 256)) [
    | inl same ↦ absurd (let no : true ≡ false = sym (get_or-set_same noted (page / 256) true false (omega (arith, within, of.room)))
        ∙ ap (noted_at (slice_set noted (page / 256) true)) (sym same) ∙ none in cc)
    | inr other ↦ rests_same (mark marks p) (mark (slice_set marks page now) p)
        (get_or-set_other marks page p now Committed (λ same. other (ap (λ (q : ℕ). q / 256) same)))
        (of.rest p (sym (get_or-set_other noted (page / 256) (p / 256) true false other) ∙ none))
  ];
}

-- all blocks are noted
pub all_are_noted : (marks : List Mark) (noted : List Bool) → length marks ≤ 256 * length noted → length noted ≤ 4096
    → ((k : ℕ) → k < length noted → noted_at noted k ≡ true) → AreBlocksNoted marks noted
all_are_noted marks noted room few each = record {
  room = room;
  few = few;
  rest = λ p none. elim (cases_lt p (length marks)) [
    | inl low ↦ absurd (let no : true ≡ false = sym (each (p / 256) (omega (arith, low, room))) ∙ none in cc)
    | inr past ↦ past_rests marks p past
  ];
}

-- fewer pages are there, and fewer blocks
pub cut_noted : (pages blocks : ℕ) (marks new : List Mark) (noted fewer : List Bool) → AreCut pages marks new → pages ≤ length marks → pages ≤ 256 * blocks
    → fewer ≡ take blocks noted → AreBlocksNoted marks noted → AreBlocksNoted new fewer
cut_noted pages blocks marks new noted fewer cut within room is of = subst (λ (ns : List Bool). AreBlocksNoted new ns) (sym is) (record {
  room = omega (arith, cut.long, within, room, of.room, length-take blocks noted);
  few = omega (arith, of.few, length-take blocks noted);
  rest = λ p none. elim (cases_lt p pages) [
    | inl low ↦ rests_same (mark marks p) (mark new p) (cut.each p low)
        (of.rest p (sym (get_or-take blocks noted (p / 256) false (omega (arith, low, room))) ∙ none))
    | inr past ↦ past_rests new p (omega (arith, cut.long, past))
  ];
})

-- a hold is let go
pub left_noted : (holders : List Holders) (marks new : List Mark) (noted : List Bool) → AreLeft holders marks new
    → AreBlocksNoted marks noted → AreBlocksNoted new noted
left_noted holders marks new noted gone of = record {
  room = omega (arith, gone.same_length, of.room);
  few = of.few;
  rest = λ p none. rests_same (left (holders_at holders p) (mark marks p)) (mark new p) (gone.each p)
      (left_rests (holders_at holders p) (mark marks p) (of.rest p none));
}
