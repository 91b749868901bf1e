-- Entries are told one after another.
use Rattle.std.specs.Prelude.{◌≡◌, ℕ, List, [], ◌∷◌, ◌++◌}
use Rattle.std.specs.declared.cmp.Ordering.TheVariants.{Less}
use Rattle.page_store.specs.declared.fault.PageFault.TheVariants.{Damaged}
use Rattle.btree.specs.Page.{Item, key_cmp}
use Rattle.btree.specs.declared.walk.fault.WalkFault.{WalkFault}
use Rattle.btree.specs.declared.walk.fault.WalkFault.TheVariants.{Store, Refused}
use Rattle.btree.specs.Walks.{IsRefusedAmong}

-- each key is past the one before it, and the first past this one
abbrev pub AscendFrom : List ℕ → List Item → Type 0
AscendFrom last [] = Unit {0}
AscendFrom last (e ∷ es) = (key_cmp last e.0 ≡ Less) × AscendFrom e.0 es

-- the key of the last of these entries, or this one, where there is none
abbrev pub last_key : List ℕ → List Item → List ℕ
last_key last [] = last
last_key last (e ∷ es) = last_key e.0 es

-- the visitor was told of these entries, which ascend from the last key; `now` is the last key after them; `told` says
-- of which entries it may have been told before, and `more` of which after
pub record HasVisited (es : List Item) (last now : List ℕ) (told more : List Item → Type 0) : Type 0 where
  pub ascending : AscendFrom last es
  pub now_is : now ≡ last_key last es
  pub told_is : (before : List Item) → told before → more (before ++ es)

-- entries are not told: they do not ascend, or the visitor refuses one
abbrev pub TellCause : List Item → List ℕ → (List Item → Item → Type 0) → (List Item → Type 0) → WalkFault → Type 0
TellCause es last refuses told (Store Damaged) = AscendFrom last es → ⊥
TellCause es last refuses told (Store _) = ⊥
TellCause es last refuses told Refused = (before : List Item) → told before → IsRefusedAmong refuses before es
