-- What was read is what the sealed store keeps.
use Rattle.std.proofs.Common.{◌≡◌, inl, inr, ◌⊎◌, ℕ, ◌<◌, ◌≤◌, List, Option, length, Contains, IsTrue, refl, sym, ◌∙◌, ap, subst, arith}
use Rattle.std.proofs.lemmas.Bool.{cases_lt}
use Rattle.std.proofs.lemmas.List.{get_or_past}
use Rattle.sector_disk.specs.Disk.{Disk, Shown}
use Rattle.page_store.specs.declared.marks.Mark.{Mark}
use Rattle.page_store.specs.declared.marks.Mark.TheVariants.{Committed, Waiting, Fresh, Released, Free}
use Rattle.page_store.specs.lemmas.Carried.{sealed_stands}
use Rattle.page_store.specs.Marks.{mark, needs, rests, turned, AreSealed}
use Rattle.page_store.specs.Page.{page}
use Rattle.page_store.specs.Spelled.{SpelledBy, Stands}
use Rattle.page_store.specs.Store.{Store, IsSoundStore, IsRemarked}
use Rattle.page_store.specs.Frames.{OnlyMarks}
use Rattle.earlier_layouts.specs.File.{IsBacked}
use Rattle.game_file.specs.Kept.{Kept}
use Rattle.earlier_layouts.specs.Held.{KeepsTable}
use Rattle.page_store.specs.Pages.{AllWait}
use Rattle.earlier_layouts.specs.lemmas.FileReads.{IsReadFromPages}

at_rest : (m : Mark) → (m ≡ Committed) ⊎ (m ≡ Free) → IsTrue (rests m)
at_rest m (inl is) = subst (λ (n : Mark). IsTrue (rests n)) (sym is) refl
at_rest m (inr is) = subst (λ (n : Mark). IsTrue (rests n)) (sym is) refl

waits_apart : (m : Mark) → m ≡ Committed → m ≡ Waiting → ⊥
waits_apart m one other = cc

module _ (old mid new : Store) (pages : List ℕ) (kept : Option Kept) (sound : IsSoundStore old) (only : OnlyMarks old mid) (read : IsReadFromPages pages kept old mid)
    (sealed : AreSealed mid.marks new.marks) (others : IsRemarked mid new) where
  long : length new.marks ≡ length old.marks
  long = sealed.same_length ∙ only.works.same_pages

  there : (p : ℕ) → Contains pages p → (1 ≤ p) × (p < length new.marks)
  there p here = (is_page (cases_lt 0 p), omega (arith, long, is_within (cases_lt p (length old.marks))))
    where
      is_page : (0 < p) ⊎ (p ≤ 0) → 1 ≤ p
      is_page (inl some) = some
      is_page (inr none) =
          let zero_is : p ≡ 0 = omega (arith, none) in
          absurd (waits_apart (mark old.marks p) (ap (mark old.marks) zero_is ∙ sound.system) (read.waited p here))

      is_within : (p < length old.marks) ⊎ (length old.marks ≤ p) → p < length old.marks
      is_within (inl within) = within
      is_within (inr past) = absurd (waits_apart (mark old.marks p) (get_or_past old.marks p Committed past) (read.waited p here))

  -- a page that waits or is marked is sealed
  sealed_each : (p : ℕ) → (mark mid.marks p ≡ Waiting) ⊎ (mark mid.marks p ≡ Committed) → (mark new.marks p ≡ Committed) ⊎ (mark new.marks p ≡ Free)
  sealed_each p (inl waits) = inr (sealed.each p ∙ ap (turned Fresh Released Free) waits)
  sealed_each p (inr marked) = inl (sealed.each p ∙ ap (turned Fresh Released Free) marked)

  was_each : AllWait old → (p : ℕ) → (mark old.marks p ≡ Waiting) ⊎ (mark old.marks p ≡ Committed)
  was_each wait p = elim (cases_lt 0 p) [
    | inr none ↦ let zero_is : p ≡ 0 = omega (arith, none) in inr (ap (mark old.marks) zero_is ∙ sound.system)
    | inl some ↦ elim (cases_lt p (length old.marks)) [
      | inl within ↦ inl (wait p some within)
      | inr past ↦ inr (get_or_past old.marks p Committed past)
    ]
  ]

  mid_each : AllWait old → (p : ℕ) → (mark mid.marks p ≡ Waiting) ⊎ (mark mid.marks p ≡ Committed)
  mid_each wait p = elim (only.others p) [
    | inr is ↦ inr is
    | inl same ↦ elim (was_each wait p) [
      | inl waits ↦ inl (same ∙ waits)
      | inr marked ↦ inr (same ∙ marked)
    ]
  ]

  -- before the seal it stands
  mid_stands : IsTrue old.disk.honest → Stands (λ p. Contains pages p) (KeepsTable old.root (length old.marks) kept) mid
  mid_stands honest = record {
    spelled = subst (λ (shown : Shown). SpelledBy (λ p. Contains pages p) (λ p. page shown.contents p)
        (KeepsTable old.root (length old.marks) kept)) (sym (only.shown honest)) (read.held honest);
    needed = λ p here. (
      (there p here).0,
      omega (arith, (there p here).1, sealed.same_length),
      subst (λ (m : Mark). IsTrue (needs m)) (sym (read.marked p here)) refl,
    );
  }

  -- and after it
  new_stands : IsTrue old.disk.honest → Stands (λ p. Contains pages p) (KeepsTable new.root (length new.marks) kept) new
  new_stands honest =
      let stands : Stands (λ p. Contains pages p) (KeepsTable old.root (length old.marks) kept) new =
      sealed_stands mid new others sealed read.marked (mid_stands honest) in
      let same_root : old.root ≡ new.root = sym (others.root ∙ only.works.root) in
      subst (λ (n : ℕ). Stands (λ p. Contains pages p) (KeepsTable new.root n kept) new) (sym long)
      (subst (λ (root : List ℕ). Stands (λ p. Contains pages p) (KeepsTable root (length old.marks) kept) new) same_root stands)

  was_honest : IsTrue new.disk.honest → IsTrue old.disk.honest
  was_honest honest = subst (λ b. IsTrue b) (ap (λ (d : Disk). d.honest) others.disk ∙ only.works.goes_on.honest) honest

  pub sealed_backed : 16 ≤ length old.marks → AllWait old → IsBacked new pages kept
  sealed_backed room wait = record {
    room = omega (arith, room, long);
    there = there;
    calm = λ open_. record { each = λ p. at_rest (mark new.marks p) (sealed_each p (mid_each wait p)) };
    free = λ open_ none p low within.
        sealed.each p ∙ ap (λ (ms : List Mark). turned Fresh Released Free (mark ms p)) (read.none none)
        ∙ ap (turned Fresh Released Free) (wait p low (omega (arith, within, long)));
    stands = λ honest open_. new_stands (was_honest honest);
  }
