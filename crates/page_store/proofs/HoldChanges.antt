-- A hold is taken and let go.
use Rattle.std.proofs.Common.{◌≡◌, ◌≢◌, ◌⊎◌, inl, inr, ℕ, ◌*◌, ◌<◌, ◌≤◌, Bool, true, false, cond, List, length, IsTrue, refl, sym, ◌∙◌, ap, subst, arith}
use Rattle.sector_disk.specs.Disk.{Disk}
use Rattle.root_pair.specs.Root.{root_of, IsAtRest}
use Rattle.page_store.specs.declared.marks.Mark.{Mark}
use Rattle.page_store.specs.declared.marks.Mark.TheVariants.{Committed, Waiting, Fresh, Released, Free, Past}
use Rattle.page_store.specs.declared.holds.HoldPlace.{HoldPlace}
use Rattle.page_store.specs.declared.holds.HoldPlace.TheVariants.{First, Second, Third, Fourth}
use Rattle.page_store.specs.declared.holds.Holders.{Holders}
use Rattle.page_store.specs.Holds.{any, needed_by, holders_at}
use Rattle.page_store.specs.Marks.{mark, needs, is_past, is_rooted, stays, left, IsNeeded}
use Rattle.page_store.specs.Store.{Store, IsSafe, IsSoundStore, IsHoldTaken, IsLetGo}
use Rattle.page_store.specs.lemmas.Holds.{need_is, other_need, need_any, some_need, need_within}

-- two places are the same or not
pub same_place : (p q : HoldPlace) → (p ≡ q) ⊎ (p ≢ q)
same_place First First = inl refl
same_place First Second = inr (λ e. cc)
same_place First Third = inr (λ e. cc)
same_place First Fourth = inr (λ e. cc)
same_place Second First = inr (λ e. cc)
same_place Second Second = inl refl
same_place Second Third = inr (λ e. cc)
same_place Second Fourth = inr (λ e. cc)
same_place Third First = inr (λ e. cc)
same_place Third Second = inr (λ e. cc)
same_place Third Third = inl refl
same_place Third Fourth = inr (λ e. cc)
same_place Fourth First = inr (λ e. cc)
same_place Fourth Second = inr (λ e. cc)
same_place Fourth Third = inr (λ e. cc)
same_place Fourth Fourth = inl refl

rooted_stays : (m : Mark) → IsTrue (is_rooted m) → IsTrue (stays m)
rooted_stays Committed is = refl
rooted_stays Waiting is = cc
rooted_stays Fresh is = cc
rooted_stays Released is = refl
rooted_stays Free is = cc
rooted_stays Past is = cc

-- a hold is taken
module _ (place : HoldPlace) (old new : Store) (taken : IsHoldTaken place old new) (sound : IsSoundStore old) where
  still_safe : IsSafe old → IsSafe new
  still_safe safe =
      let long : length new.marks ≡ length old.marks = ap (λ (ms : List Mark). length ms) taken.marks in
      let lasts : new.disk.now.lasting ≡ old.disk.now.lasting = ap (λ (d : Disk). d.now.lasting) taken.disk in
      record {
        rest = subst (λ (d : Disk). IsAtRest d.now) (sym taken.disk) safe.rest;
        room = omega (arith, safe.room, long, lasts);
        root = ap (λ (d : Disk). root_of d.now.contents) taken.disk ∙ safe.root ∙ sym taken.root;
        synced = λ p needed k within. subst (λ (d : Disk). IsTrue (d.now.synced k)) (sym taken.disk)
            (safe.synced p (subst (λ (ms : List Mark). IsNeeded ms p) taken.marks needed) k within);
      }

  long_of : length new.holds.of ≡ length old.marks
  long_of = taken.same_length ∙ sound.holds.same_length

  within : (q : HoldPlace) (p : ℕ) → IsTrue (needed_by (holders_at new.holds.of p) q) → p < length old.marks
  within q p it = omega (arith, need_within new.holds.of q p it, long_of)

  -- what this hold needs now
  its : (p : ℕ) → p < length old.marks → needed_by (holders_at new.holds.of p) place ≡ is_rooted (mark old.marks p)
  its p low = ap (λ (h : Holders). needed_by h place) (taken.each p low) ∙ need_is (holders_at old.holds.of p) place (is_rooted (mark old.marks p))

  -- what another needs
  others : (q : HoldPlace) → place ≢ q → (p : ℕ) → p < length old.marks → needed_by (holders_at new.holds.of p) q ≡ needed_by (holders_at old.holds.of p) q
  others q apart p low =
      ap (λ (h : Holders). needed_by h q) (taken.each p low) ∙ other_need (holders_at old.holds.of p) place q (is_rooted (mark old.marks p)) apart

  is_taken : (q : HoldPlace) (p : ℕ) → IsTrue (needed_by (holders_at new.holds.of p) q) → (place ≡ q) ⊎ (place ≢ q) → IsTrue (needed_by new.holds.taken q)
  is_taken q p it (inl same) =
      subst (λ (r : HoldPlace). IsTrue (needed_by new.holds.taken r)) same
      (ap (λ (h : Holders). needed_by h place) taken.taken ∙ need_is old.holds.taken place true)
  is_taken q p it (inr apart) =
      ap (λ (h : Holders). needed_by h q) taken.taken ∙ other_need old.holds.taken place q true apart
      ∙ sound.holds.taken q p (sym (others q apart p (within q p it)) ∙ it)

  stays_there : (q : HoldPlace) (p : ℕ) → IsTrue (needed_by (holders_at new.holds.of p) q) → (place ≡ q) ⊎ (place ≢ q) → IsTrue (stays (mark old.marks p))
  stays_there q p it (inl same) =
      let here : IsTrue (needed_by (holders_at new.holds.of p) place) = subst
      (λ (r : HoldPlace). IsTrue (needed_by (holders_at new.holds.of p) r)) (sym same) it in
      rooted_stays (mark old.marks p) (sym (its p (within q p it)) ∙ here)
  stays_there q p it (inr apart) = sound.holds.stay q p (sym (others q apart p (within q p it)) ∙ it)

  -- a hold that needed a page is not the one that was taken
  needed_apart : (q : HoldPlace) (p : ℕ) → IsTrue (needed_by (holders_at old.holds.of p) q) → place ≢ q
  needed_apart q p it same =
      let was : IsTrue (needed_by old.holds.taken q) = sound.holds.taken q p it in
      let none : needed_by old.holds.taken q ≡ false = subst (λ (r : HoldPlace). needed_by old.holds.taken r ≡ false) same taken.was_free in
      let no : true ≡ false = sym was ∙ none in cc

  past_held : (p : ℕ) → IsTrue (is_past (mark old.marks p)) → IsTrue (any (holders_at new.holds.of p))
  past_held p is =
      let (q, it) = some_need (holders_at old.holds.of p) (sound.holds.past p is) in
      let low : p < length old.marks = omega (arith, need_within old.holds.of q p it, sound.holds.same_length) in
      need_any (holders_at new.holds.of p) q (others q (needed_apart q p it) p low ∙ it)

  pub taken_sound : IsSoundStore new
  taken_sound = record {
    least = subst (λ (d : Disk). 4 ≤ length d.now.contents) (sym taken.disk) sound.least;
    fits = subst (λ (d : Disk). 8 * length new.marks ≤ length d.now.contents) (sym taken.disk)
        (subst (λ (ms : List Mark). 8 * length ms ≤ length old.disk.now.contents) (sym taken.marks) sound.fits);
    few = omega (arith, sound.few, ap (λ (ms : List Mark). length ms) taken.marks);
    system = ap (λ (ms : List Mark). mark ms 0) taken.marks ∙ sound.system;
    safe = λ honest open_. still_safe (sound.safe (subst (λ (d : Disk). IsTrue d.honest) taken.disk honest) (sym taken.closed ∙ open_));
    holds = record {
      same_length = long_of ∙ ap (λ (ms : List Mark). length ms) (sym taken.marks);
      taken = λ q p it. is_taken q p it (same_place place q);
      stay = λ q p it. subst (λ (ms : List Mark). IsTrue (stays (mark ms p))) (sym taken.marks) (stays_there q p it (same_place place q));
      past = λ p is. past_held p (subst (λ (ms : List Mark). IsTrue (is_past (mark ms p))) taken.marks is);
    };
  }

needs_of : (b : Bool) → needs (cond b Past Free) ≡ false
needs_of true = refl
needs_of false = refl

left_needs : (h : Holders) (m : Mark) → needs (left h m) ≡ needs m
left_needs h Committed = refl
left_needs h Waiting = refl
left_needs h Fresh = refl
left_needs h Released = refl
left_needs h Free = refl
left_needs h Past = needs_of (any h)

stays_of : (b : Bool) → IsTrue b → IsTrue (stays (cond b Past Free))
stays_of true is = refl
stays_of false is = cc

left_stays : (h : Holders) (m : Mark) → IsTrue (any h) → IsTrue (stays m) → IsTrue (stays (left h m))
left_stays h Committed some it = refl
left_stays h Waiting some it = cc
left_stays h Fresh some it = cc
left_stays h Released some it = refl
left_stays h Free some it = cc
left_stays h Past some it = stays_of (any h) some

past_of : (b : Bool) → IsTrue (is_past (cond b Past Free)) → IsTrue b
past_of true is = refl
past_of false is = cc

left_past : (h : Holders) (m : Mark) → IsTrue (is_past (left h m)) → IsTrue (any h)
left_past h Committed is = cc
left_past h Waiting is = cc
left_past h Fresh is = cc
left_past h Released is = cc
left_past h Free is = cc
left_past h Past is = past_of (any h) is

-- a hold is let go
module _ (place : HoldPlace) (old new : Store) (gone : IsLetGo place old new) (sound : IsSoundStore old) where
  was_needed : (p : ℕ) → IsNeeded new.marks p → IsNeeded old.marks p
  was_needed p needed = (
    needed.0,
    omega (arith, needed.1, gone.marks.same_length),
    sym (ap needs (gone.marks.each p) ∙ left_needs (holders_at new.holds.of p) (mark old.marks p)) ∙ needed.2,
  )

  safe_still : IsSafe old → IsSafe new
  safe_still safe =
      let lasts : new.disk.now.lasting ≡ old.disk.now.lasting = ap (λ (d : Disk). d.now.lasting) gone.disk in
      record {
        rest = subst (λ (d : Disk). IsAtRest d.now) (sym gone.disk) safe.rest;
        room = omega (arith, safe.room, gone.marks.same_length, lasts);
        root = ap (λ (d : Disk). root_of d.now.contents) gone.disk ∙ safe.root ∙ sym gone.root;
        synced = λ p needed k within. subst (λ (d : Disk). IsTrue (d.now.synced k)) (sym gone.disk) (safe.synced p (was_needed p needed) k within);
      }

  -- the hold that was let go needs nothing
  none_its : (p : ℕ) → needed_by (holders_at new.holds.of p) place ≡ false
  none_its p = ap (λ (h : Holders). needed_by h place) (gone.each p) ∙ need_is (holders_at old.holds.of p) place false

  -- so a hold that needs a page is another, and needed it before
  needed_else : (q : HoldPlace) (p : ℕ) → IsTrue (needed_by (holders_at new.holds.of p) q) → place ≢ q
  needed_else q p it same =
      let none : needed_by (holders_at new.holds.of p) q ≡ false = subst
      (λ (r : HoldPlace). needed_by (holders_at new.holds.of p) r ≡ false) same (none_its p) in
      let no : true ≡ false = sym it ∙ none in cc

  needed_before : (q : HoldPlace) (p : ℕ) → IsTrue (needed_by (holders_at new.holds.of p) q) → IsTrue (needed_by (holders_at old.holds.of p) q)
  needed_before q p it =
      sym (ap (λ (h : Holders). needed_by h q) (gone.each p) ∙ other_need (holders_at old.holds.of p) place q false (needed_else q p it)) ∙ it

  pub let_go_sound : IsSoundStore new
  let_go_sound = record {
    least = subst (λ (d : Disk). 4 ≤ length d.now.contents) (sym gone.disk) sound.least;
    fits = subst (λ (d : Disk). 8 * length new.marks ≤ length d.now.contents) (sym gone.disk) (omega (arith, sound.fits, gone.marks.same_length));
    few = omega (arith, sound.few, gone.marks.same_length);
    system = gone.marks.each 0 ∙ ap (left (holders_at new.holds.of 0)) sound.system;
    safe = λ honest open_. safe_still (sound.safe (subst (λ (d : Disk). IsTrue d.honest) gone.disk honest) (sym gone.closed ∙ open_));
    holds = record {
      same_length = gone.same_length ∙ sound.holds.same_length ∙ sym gone.marks.same_length;
      taken = λ q p it.
          ap (λ (h : Holders). needed_by h q) gone.taken ∙ other_need old.holds.taken place q false (needed_else q p it)
          ∙ sound.holds.taken q p (needed_before q p it);
      stay = λ q p it. subst (λ (m : Mark). IsTrue (stays m)) (sym (gone.marks.each p))
          (left_stays (holders_at new.holds.of p) (mark old.marks p) (need_any (holders_at new.holds.of p) q it) (sound.holds.stay q p (needed_before q p it)));
      past = λ p is. left_past (holders_at new.holds.of p) (mark old.marks p) (sym (ap is_past (gone.marks.each p)) ∙ is);
    };
  }
