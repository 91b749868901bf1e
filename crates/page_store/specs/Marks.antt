-- What each page is used for.
use Rattle.std.specs.Prelude.{◌≡◌, ◌≢◌, ℕ, ◌+◌, ◌≤◌, ◌<◌, Bool, true, false, cond, List, [], ◌∷◌, length, slice_index_or, IsTrue}
use Rattle.page_store.specs.declared.marks.Mark.{Mark}
use Rattle.page_store.specs.declared.marks.Mark.TheVariants.{Committed, Waiting, Fresh, Released, Free, Past}
use Rattle.page_store.specs.declared.holds.Holders.{Holders}
use Rattle.page_store.specs.Holds.{any, holders_at}

-- the mark of a page; what lies after the last page is never handed out
abbrev pub mark : List Mark → ℕ → Mark
mark marks p = slice_index_or marks p Committed

-- the committed root may need a page of this mark
abbrev pub needs : Mark → Bool
needs Committed = true
needs Waiting = true
needs Fresh = false
needs Released = true
needs Free = false
needs Past = false

-- the next root may need a page of this mark
abbrev pub keeps : Mark → Bool
keeps Committed = true
keeps Waiting = true
keeps Fresh = true
keeps Released = false
keeps Free = false
keeps Past = false

-- it is a page that the committed root may need; after the last page is none
abbrev pub IsNeeded : List Mark → ℕ → Type 0
IsNeeded marks p = (1 ≤ p) × (p < length marks) × IsTrue (needs (mark marks p))

-- it is a page that the next root may need
abbrev pub IsKept : List Mark → ℕ → Type 0
IsKept marks p = (1 ≤ p) × (p < length marks) × IsTrue (keeps (mark marks p))

-- another mark for what was handed out, for what was released, and for what was not marked yet
abbrev pub turned : Mark → Mark → Mark → Mark → Mark
turned f r w Committed = Committed
turned f r w Waiting = w
turned f r w Fresh = f
turned f r w Released = r
turned f r w Free = Free
turned f r w Past = Past

-- all marks are turned
pub record Turned (fresh released waiting : Mark) (old new : List Mark) : Type 0 where
  pub same_length : length new ≡ length old
  pub each : (p : ℕ) → mark new p ≡ turned fresh released waiting (mark old p)

-- after `seal`: what was not marked is free
abbrev pub AreSealed : List Mark → List Mark → Type 0
AreSealed old new = Turned Fresh Released Free old new

-- a hold alone needs a page of this mark
abbrev pub is_past : Mark → Bool
is_past Committed = false
is_past Waiting = false
is_past Fresh = false
is_past Released = false
is_past Free = false
is_past Past = true

-- the mark after a commit of a page that these holds need: what was handed out is needed, and what was released is free, or stays for
-- the holds
abbrev pub committed : Holders → Mark → Mark
committed holders Committed = Committed
committed holders Waiting = Waiting
committed holders Fresh = Committed
committed holders Released = cond (any holders) Past Free
committed holders Free = Free
committed holders Past = Past

-- after `commit`, where these holds need each page
pub record AreCommitted (holders : List Holders) (old new : List Mark) : Type 0 where
  pub same_length : length new ≡ length old
  pub each : (p : ℕ) → mark new p ≡ committed (holders_at holders p) (mark old p)

-- the mark of a page that these holds still need: free where only a hold needed it and none does any more
abbrev pub left : Holders → Mark → Mark
left holders Committed = Committed
left holders Waiting = Waiting
left holders Fresh = Fresh
left holders Released = Released
left holders Free = Free
left holders Past = cond (any holders) Past Free

-- after a hold was let go, where these holds need each page still
pub record AreLeft (holders : List Holders) (old new : List Mark) : Type 0 where
  pub same_length : length new ≡ length old
  pub each : (p : ℕ) → mark new p ≡ left (holders_at holders p) (mark old p)

-- a hold that is taken now needs a page of this mark: the committed root does
abbrev pub is_rooted : Mark → Bool
is_rooted Committed = true
is_rooted Waiting = false
is_rooted Fresh = false
is_rooted Released = true
is_rooted Free = false
is_rooted Past = false

-- a page of this mark may be needed by a hold: it is neither written nor handed out
abbrev pub stays : Mark → Bool
stays Committed = true
stays Waiting = false
stays Fresh = false
stays Released = true
stays Free = false
stays Past = true

-- nothing is going on with a page of this mark, as between commands
abbrev pub rests : Mark → Bool
rests Committed = true
rests Waiting = false
rests Fresh = false
rests Released = false
rests Free = true
rests Past = true

-- after growing to this many pages, where these holds need each page: as after a commit, and the new pages are free
pub record AreGrown (holders : List Holders) (pages : ℕ) (old new : List Mark) : Type 0 where
  pub long : length new ≡ pages
  pub each : (p : ℕ) → p < length old → mark new p ≡ committed (holders_at holders p) (mark old p)
  pub added : (p : ℕ) → length old ≤ p → p < pages → mark new p ≡ Free

-- only the pages below this number, each used as it was
pub record AreCut (pages : ℕ) (old new : List Mark) : Type 0 where
  pub long : length new ≡ pages
  pub each : (p : ℕ) → p < pages → mark new p ≡ mark old p

-- after `discard`: what was handed out is free, and what was released is needed
abbrev pub AreDiscarded : List Mark → List Mark → Type 0
AreDiscarded old new = Turned Free Committed Waiting old new

-- one page has another mark
pub record IsMarked (page : ℕ) (now : Mark) (old new : List Mark) : Type 0 where
  pub same_length : length new ≡ length old
  pub is : mark new page ≡ now
  pub others : (p : ℕ) → p ≢ page → mark new p ≡ mark old p

-- one for a free page
abbrev pub free_one : Mark → ℕ
free_one Committed = 0
free_one Waiting = 0
free_one Fresh = 0
free_one Released = 0
free_one Free = 1
free_one Past = 0

-- how many pages are free
abbrev pub free_count : List Mark → ℕ
free_count [] = 0
free_count (m ∷ marks) = free_one m + free_count marks

-- each page from this one on is free
pub record AreFreeFrom (high : ℕ) (marks : List Mark) : Type 0 where
  pub each : (p : ℕ) → high ≤ p → p < length marks → mark marks p ≡ Free

-- after `release`: free at once where it was handed out since the last commit, and else after the next
abbrev pub let_go : Mark → Mark
let_go Committed = Released
let_go Waiting = Waiting
let_go Fresh = Free
let_go Released = Released
let_go Free = Free
let_go Past = Past
