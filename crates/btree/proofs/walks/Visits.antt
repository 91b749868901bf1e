-- Entries that ascend are told one after another.
use Rattle.std.proofs.Common.{◌≡◌, ℕ, suc, ◌+◌, ◌≤◌, List, [], ◌∷◌, ◌++◌, Some, length, take, drop, refl, sym, ◌∙◌, ap, subst, arith, append_assoc, append-nil}
use Rattle.std.proofs.lemmas.List.{take_all}
use Rattle.std.specs.List.{slice_get}
use Rattle.page_store.specs.declared.fault.PageFault.TheVariants.{Disk, NotATable, Damaged, TableFull, OutOfMemory, Closed}
use Rattle.btree.specs.Page.{Item}
use Rattle.btree.specs.Entries.{Ascend}
use Rattle.btree.specs.lemmas.Found.{split_got, take_got}
use Rattle.btree.specs.lemmas.Order.{Past, ascend_cons, ascend_first, ascend_none, ascend_rest, past_more}
use Rattle.btree.specs.declared.walk.fault.WalkFault.{WalkFault}
use Rattle.btree.specs.declared.walk.fault.WalkFault.TheVariants.{Store, Refused}
use Rattle.btree.specs.Walks.{IsRefusedAmong}
use Rattle.btree.specs.lemmas.Visits.{AscendFrom, last_key, HasVisited, TellCause}

pub last_more : (last : List ℕ) (es fs : List Item) → last_key last (es ++ fs) ≡ last_key (last_key last es) fs
last_more last [] fs = refl
last_more last (e ∷ es) fs = last_more e.0 es fs

pub from_both : (last : List ℕ) (es fs : List Item) → AscendFrom last es → AscendFrom (last_key last es) fs → AscendFrom last (es ++ fs)
from_both last [] fs one two = two
from_both last (e ∷ es) fs one two = (one.0, from_both e.0 es fs one.1 two)

pub from_front : (last : List ℕ) (es fs : List Item) → AscendFrom last (es ++ fs) → AscendFrom last es
from_front last [] fs all = tt
from_front last (e ∷ es) fs all = (all.0, from_front e.0 es fs all.1)

pub from_back : (last : List ℕ) (es fs : List Item) → AscendFrom last (es ++ fs) → AscendFrom (last_key last es) fs
from_back last [] fs all = all
from_back last (e ∷ es) fs all = from_back e.0 es fs all.1

-- entries that ascend from a key are past it, and ascend
pub from_past : (last : List ℕ) (es : List Item) → AscendFrom last es → Past es last
from_past last [] all = tt
from_past last (e ∷ es) all = (all.0, past_more last e.0 es all.0 (from_past e.0 es all.1))

pub from_ascends : (last : List ℕ) (es : List Item) → AscendFrom last es → Ascend es
from_ascends last [] all = ascend_none
from_ascends last (e ∷ es) all = ascend_cons e es (from_past e.0 es all.1) (from_ascends e.0 es all.1)

pub ascends_from : (last : List ℕ) (es : List Item) → Past es last → Ascend es → AscendFrom last es
ascends_from last [] past ascend = tt
ascends_from last (e ∷ es) past ascend = (past.0, ascends_from e.0 es (ascend_first e es ascend) (ascend_rest e es ascend))

pub told_none : (last : List ℕ) (told : List Item → Type 0) → HasVisited [] last last told told
told_none last told = record { ascending = tt; now_is = refl; told_is = λ before was. subst told (sym (append-nil before)) was }

pub told_then : (es fs : List Item) (last mid now : List ℕ) (told more most : List Item → Type 0) → HasVisited es last mid told more
    → HasVisited fs mid now more most → HasVisited (es ++ fs) last now told most
told_then es fs last mid now told more most one two = record {
  ascending = from_both last es fs one.ascending (subst (λ (k : List ℕ). AscendFrom k fs) one.now_is two.ascending);
  now_is = two.now_is ∙ ap (λ (k : List ℕ). last_key k fs) one.now_is ∙ sym (last_more last es fs);
  told_is = λ before was. subst most (append_assoc before es fs) (two.told_is (before ++ es) (one.told_is before was));
}

-- one that is refused among more
pub refused_later : (refuses : List Item → Item → Type 0) (told front es back all : List Item) → all ≡ front ++ (es ++ back)
    → IsRefusedAmong refuses (told ++ front) es → IsRefusedAmong refuses told all
refused_later refuses told front es back all is refused = record {
  front = front ++ refused.front;
  entry = refused.entry;
  back = refused.back ++ back;
  is = is ∙ ap (λ (fs : List Item). front ++ (fs ++ back)) refused.is
      ∙ ap (λ (fs : List Item). front ++ fs) (append_assoc refused.front (refused.entry ∷ refused.back) back)
      ∙ sym (append_assoc front refused.front (refused.entry ∷ (refused.back ++ back)));
  refused = subst (λ (ts : List Item). refuses ts refused.entry) (append_assoc told front refused.front) refused.refused;
}

-- one entry more is told, or is not
module _ (items : List Item) (k : ℕ) (e : Item) (first last : List ℕ) (told more : List Item → Type 0)
    (so_far : HasVisited (take k items) first last told more) (got : slice_get items k ≡ Some e) where
  pub told_more : (now : List ℕ) (most : List Item → Type 0) → HasVisited (e ∷ []) last now more most → HasVisited (take (k + 1) items) first now told most
  told_more now most one =
      let on : k + 1 ≡ suc k = omega arith in
      subst (λ (es : List Item). HasVisited es first now told most) (sym (ap (λ (n : ℕ). take n items) on ∙ take_got items k e got))
      (told_then (take k items) (e ∷ []) first last now told more most so_far one)

  pub tell_fails : (refuses : List Item → Item → Type 0) (fault : WalkFault) → TellCause (e ∷ []) last refuses more fault
      → TellCause items first refuses told fault
  tell_fails refuses (Store Disk) cause = absurd cause
  tell_fails refuses (Store NotATable) cause = absurd cause
  tell_fails refuses (Store Damaged) cause = λ all.
      let rest : AscendFrom (last_key first (take k items)) (e ∷ drop (suc k) items) =
      from_back first (take k items) (e ∷ drop (suc k) items) (subst (AscendFrom first) (split_got items k e got) all) in
      let here : AscendFrom last (e ∷ drop (suc k) items) = subst (λ (l : List ℕ). AscendFrom l (e ∷ drop (suc k) items)) (sym so_far.now_is) rest in
      cause (here.0, tt)
  tell_fails refuses (Store TableFull) cause = absurd cause
  tell_fails refuses (Store OutOfMemory) cause = absurd cause
  tell_fails refuses (Store Closed) cause = absurd cause
  tell_fails refuses Refused cause = λ before was.
      refused_later refuses before (take k items) (e ∷ []) (drop (suc k) items) items (split_got items k e got)
      (cause (before ++ take k items) (so_far.told_is before was))

pub told_all : (items : List Item) (k : ℕ) (first last : List ℕ) (told more : List Item → Type 0) → length items ≤ k
    → HasVisited (take k items) first last told more → HasVisited items first last told more
told_all items k first last told more many so_far = subst (λ (es : List Item). HasVisited es first last told more) (take_all k items many) so_far
