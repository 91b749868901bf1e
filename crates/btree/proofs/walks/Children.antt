-- The children of a page are walked, one after another.
use Rattle.std.proofs.Common.{◌≡◌, ◌≢◌, ℕ, suc, ◌+◌, ◌-◌, ◌≤◌, List, [], ◌∷◌, ◌++◌, Some, All, length, take, drop, IsTrue, refl, sym, ◌∙◌, ap, subst, arith, append-nil}
use Rattle.std.proofs.lemmas.List.{take_all}
use Rattle.std.proofs.lemmas.List.Concat.{flat_map-append}
use Rattle.std.proofs.lemmas.List.Elements.{All-append, All-cons, All-nil, All-weaker}
use Rattle.std.specs.List.{flat_map, slice_get}
use Rattle.std.specs.Option.{option_map}
use Rattle.sector_disk.specs.lemmas.Moments.{still_honest}
use Rattle.page_store.specs.declared.fault.PageFault.{PageFault}
use Rattle.page_store.specs.declared.fault.PageFault.TheVariants.{Disk, NotATable, Damaged, TableFull, OutOfMemory, Closed}
use Rattle.page_store.specs.Store.{Store as StoreStated, reads}
use Rattle.btree.specs.declared.page.kind.Kind.TheVariants.{Leaf, Inner}
use Rattle.btree.specs.declared.page.widths.Widths.{Widths}
use Rattle.btree.specs.Page.{Item, IsPage, items_in, child_of}
use Rattle.btree.specs.Entries.{first_key}
use Rattle.btree.specs.Tree.{entries_below, pages_below, IsTree}
use Rattle.btree.specs.lemmas.Found.{take_got}
use Rattle.btree.specs.lemmas.Laws.{contains_root}
use Rattle.btree.specs.lemmas.Parts.{HasFirst, all_got, first_below, flat_at}
use Rattle.btree.specs.lemmas.Unchanged.{grew_before}
use Rattle.btree.specs.declared.walk.fault.WalkFault.{WalkFault}
use Rattle.btree.specs.declared.walk.fault.WalkFault.TheVariants.{Store, Refused}
use Rattle.btree.specs.Walks.{IsRefusedAmong}
use Rattle.btree.specs.lemmas.WalkedPages.{AreReady, ArePassed, IsWalked, WalkBelowCause}
use Rattle.btree.specs.lemmas.MarkedReads.{IsPageTaken, TakeCause}
use Rattle.page_store.specs.Frames.{OnlyMarks}
use Rattle.btree.specs.lemmas.Visits.{AscendFrom, HasVisited, TellCause}
use Rattle.btree.proofs.walks.MarkedPages.{reads_marked}
use Rattle.btree.proofs.walks.WalkedPages.{passed_page, passed_then, ready_back, ready_front}
use Rattle.btree.proofs.walks.Visits.{refused_later}

pub first_got : (es : List Item) → first_key es ≡ option_map (λ e. e.0) (slice_get es 0)
first_got [] = refl
first_got (e ∷ es) = refl

module _ (w : Widths) where
  -- what is below the page that an item leads to
  abbrev pub pages_at : (ℕ → List ℕ) → ℕ → Item → List ℕ
  pages_at bytes d c = pages_below w bytes d (child_of c)

  abbrev pub entries_at : (ℕ → List ℕ) → ℕ → Item → List Item
  entries_at bytes d c = entries_below w bytes d (child_of c)

  abbrev pub IsBranch : (ℕ → List ℕ) → ℕ → Item → Type 0
  IsBranch bytes d c = IsTree w bytes d (child_of c) × (first_key (entries_below w bytes d (child_of c)) ≡ Some c.0)

-- of the items of a page, the children of this many are walked
pub record AreOver (w : Widths) (bytes : ℕ → List ℕ) (d page : ℕ) (items : List Item) (k : ℕ) (old now : StoreStated)
    (last between : List ℕ) (told more : List Item → Type 0) : Type 0 where
  pub branches : All (IsBranch w bytes d) (take k items)
  pub passed : ArePassed (page ∷ flat_map (pages_at w bytes d) (take k items)) (flat_map (entries_at w bytes d) (take k items)) old now last between told more

pub over_none : (w : Widths) (bytes : ℕ → List ℕ) (d page : ℕ) (items : List Item) (body : List ℕ) (old now : StoreStated) (last : List ℕ)
    (told : List Item → Type 0)
    → IsPageTaken w Inner page body old now → AreOver w bytes d page items 0 old now last last told told
over_none w bytes d page items body old now last told taken = record {
  branches = All-nil (IsBranch w bytes d);
  passed = passed_page w Inner page body old now last told taken;
}

-- one child more
module _ (w : Widths) (bytes : ℕ → List ℕ) (d page : ℕ) (items : List Item) (k : ℕ) (c : Item) (old mid : StoreStated)
    (last between : List ℕ) (told more : List Item → Type 0)
    (so_far : AreOver w bytes d page items k old mid last between told more) (got : slice_get items k ≡ Some c) where
  one_more : take (k + 1) items ≡ take k items ++ c ∷ []
  one_more = let on : k + 1 ≡ suc k = omega arith in ap (λ (n : ℕ). take n items) on ∙ take_got items k c got

  flat_more : {X : Type 0} (f : Item → List X) → flat_map f (take (k + 1) items) ≡ flat_map f (take k items) ++ f c
  flat_more f = ap (flat_map f) one_more ∙ flat_map-append f (take k items) (c ∷ []) ∙ ap (λ rest. flat_map f (take k items) ++ rest) (append-nil (f c))

  pub over_more : (new : StoreStated) (first now : List ℕ) (most : List Item → Type 0) → length mid.marks ≡ length old.marks → first ≡ c.0
      → IsWalked w bytes d (child_of c) first mid new between now more most → AreOver w bytes d page items (k + 1) old new last now told most
  over_more new first now most same is walked = record {
    branches = subst (All (IsBranch w bytes d)) (sym one_more)
        (All-append (IsBranch w bytes d) (take k items) (c ∷ []) so_far.branches
        (All-cons (IsBranch w bytes d) c [] (walked.tree, walked.first_is ∙ ap Some is) (All-nil (IsBranch w bytes d))));
    passed = subst (λ (ps : List ℕ). ArePassed (page ∷ ps)
        (flat_map (entries_at w bytes d) (take (k + 1) items)) old new last now told most) (sym (flat_more (pages_at w bytes d)))
        (subst (λ (es : List Item). ArePassed
        (page ∷ (flat_map (pages_at w bytes d) (take k items) ++ pages_at w bytes d c)) es old new last now told most)
        (sym (flat_more (entries_at w bytes d)))
        (passed_then (page ∷ flat_map (pages_at w bytes d) (take k items)) (pages_at w bytes d c)
        (flat_map (entries_at w bytes d) (take k items)) (entries_at w bytes d c)
        old mid new last between now told more most same so_far.passed walked.passed));
  }

  -- a child of a tree that can be walked can be walked
  pub child_ready : AreReady (page ∷ flat_map (pages_at w bytes d) items) (flat_map (entries_at w bytes d) items) old last
      → AreReady (pages_at w bytes d c) (entries_at w bytes d c) mid between
  child_ready ready =
      ready_front (pages_at w bytes d c) (flat_map (pages_at w bytes d) (drop (suc k) items)) (entries_at w bytes d c)
      (flat_map (entries_at w bytes d) (drop (suc k) items)) mid between
      (ready_back (page ∷ flat_map (pages_at w bytes d) (take k items)) (pages_at w bytes d c ++ flat_map (pages_at w bytes d) (drop (suc k) items))
      (flat_map (entries_at w bytes d) (take k items)) (entries_at w bytes d c ++ flat_map (entries_at w bytes d) (drop (suc k) items)) old last
      (subst (λ (ps : List ℕ). AreReady (page ∷ ps)
      (flat_map (entries_at w bytes d) (take k items) ++ (entries_at w bytes d c ++ flat_map (entries_at w bytes d) (drop (suc k) items))) old last)
      (flat_at (pages_at w bytes d) items k c got)
      (subst (λ (es : List Item). AreReady (page ∷ flat_map (pages_at w bytes d) items) es old last) (flat_at (entries_at w bytes d) items k c got) ready))
      mid between told more so_far.passed)

  pub child_refused : (refuses : List Item → Item → Type 0) → ((before : List Item) → more before → IsRefusedAmong refuses before (entries_at w bytes d c))
      → (before : List Item) → told before → IsRefusedAmong refuses before (flat_map (entries_at w bytes d) items)
  child_refused refuses refused before was =
      refused_later refuses before (flat_map (entries_at w bytes d) (take k items)) (entries_at w bytes d c)
      (flat_map (entries_at w bytes d) (drop (suc k) items))
      (flat_map (entries_at w bytes d) items) (flat_at (entries_at w bytes d) items k c got)
      (refused (before ++ flat_map (entries_at w bytes d) (take k items)) (so_far.passed.entries.told_is before was))

-- all children are walked
pub over_all : (w : Widths) (bytes : ℕ → List ℕ) (d page : ℕ) (body : List ℕ) (k : ℕ) (old now : StoreStated) (last between : List ℕ)
    (told more : List Item → Type 0) (first : List ℕ) → body ≡ bytes page
    → IsPage w Inner body → length (items_in w Inner body) ≤ k → first_key (items_in w Inner body) ≡ Some first
    → AreOver w bytes d page (items_in w Inner body) k old now last between told more
    → IsWalked w bytes (suc d) page first old now last between told more
over_all w bytes d page body k old now last between told more first is form many first_is over =
    whole (subst (IsPage w Inner) is form) (subst (λ (b : List ℕ). first_key (items_in w Inner b) ≡ Some first) is first_is)
    (subst (λ (b : List ℕ). All (IsBranch w bytes d) (items_in w Inner b)) is (subst (All (IsBranch w bytes d)) all over.branches))
    (subst (λ (b : List ℕ). Passed (items_in w Inner b)) is (subst Passed all over.passed))
  where
    Passed : List Item → Type 0
    Passed cs = ArePassed (page ∷ flat_map (pages_at w bytes d) cs) (flat_map (entries_at w bytes d) cs) old now last between told more

    all : take k (items_in w Inner body) ≡ items_in w Inner body
    all = take_all k (items_in w Inner body) many

    whole : IsPage w Inner (bytes page) → first_key (items_in w Inner (bytes page)) ≡ Some first
        → All (IsBranch w bytes d) (items_in w Inner (bytes page)) → Passed (items_in w Inner (bytes page))
        → IsWalked w bytes (suc d) page first old now last between told more
    whole there first_there branches passed = record {
      tree = (there, branches);
      first_is = first_below (entries_at w bytes d) (items_in w Inner (bytes page))
          (All-weaker (IsBranch w bytes d) (HasFirst (entries_at w bytes d)) (λ c b. b.1) (items_in w Inner (bytes page)) branches)
          ∙ sym (first_got (items_in w Inner (bytes page))) ∙ first_there;
      passed = passed;
    }

-- a leaf is walked
pub leaf_walked : (w : Widths) (d page : ℕ) (body : List ℕ) (old new : StoreStated) (last now : List ℕ) (told more : List Item → Type 0)
    (first : List ℕ) → d ≡ 0 → body ≡ reads old page → IsPageTaken w Leaf page body old new
    → first_key (items_in w Leaf body) ≡ Some first → HasVisited (items_in w Leaf body) last now told more
    → IsWalked w (reads old) d page first old new last now told more
leaf_walked w d page body old new last now told more first none is taken first_is all =
    let one = passed_page w Leaf page body old new last told taken in
    subst (λ (e : ℕ). IsWalked w (reads old) e page first old new last now told more) (sym none) (record {
      tree = subst (IsPage w Leaf) is taken.form;
      first_is = subst (λ (b : List ℕ). first_key (items_in w Leaf b) ≡ Some first) is first_is;
      passed = record {
        marked = one.marked;
        once = one.once;
        there = one.there;
        entries = subst (λ (b : List ℕ). HasVisited (items_in w Leaf b) last now told more) is all;
      };
    })

-- the entries of a leaf are not told
pub leaf_fails : (w : Widths) (d page : ℕ) (body last : List ℕ) (refuses : List Item → Item → Type 0) (told : List Item → Type 0)
    (old new : StoreStated) → d ≡ 0
    → (IsTrue old.disk.honest → body ≡ reads old page) → (fault : WalkFault) → TellCause (items_in w Leaf body) last refuses told fault
    → WalkBelowCause w d page last refuses told old new fault
leaf_fails w d page body last refuses told old new none is fault cause =
    subst (λ (e : ℕ). WalkBelowCause w e page last refuses told old new fault) (sym none) (each fault cause)
  where
    each : (fault : WalkFault) → TellCause (items_in w Leaf body) last refuses told fault → WalkBelowCause w 0 page last refuses told old new fault
    each (Store Disk) never = absurd never
    each (Store NotATable) never = absurd never
    each (Store Damaged) not = λ honest tree ready. not (subst (λ (b : List ℕ). AscendFrom last (items_in w Leaf b)) (sym (is honest)) ready.ascending)
    each (Store TableFull) never = absurd never
    each (Store OutOfMemory) never = absurd never
    each (Store Closed) never = absurd never
    each Refused refused = λ honest before was. subst (λ (b : List ℕ). IsRefusedAmong refuses before (items_in w Leaf b)) (is honest) (refused before was)

-- one level down
pub deeper : (d : ℕ) → d ≢ 0 → suc (d - 1) ≡ d
deeper d some = omega (arith, some)

-- an inner page is not taken
pub not_taken : (w : Widths) (d page : ℕ) (last : List ℕ) (refuses : List Item → Item → Type 0) (told : List Item → Type 0)
    (old new : StoreStated) → d ≢ 0 → (fault : PageFault)
    → TakeCause w Inner page old new fault → WalkBelowCause w d page last refuses told old new (Store fault)
not_taken w d page last refuses told old new some fault cause =
    subst (λ (e : ℕ). WalkBelowCause w e page last refuses told old new (Store fault)) (deeper d some) (each fault cause)
  where
    each : (fault : PageFault) → TakeCause w Inner page old new fault → WalkBelowCause w (suc (d - 1)) page last refuses told old new (Store fault)
    each Disk grew = grew
    each NotATable never = absurd never
    each Damaged not = λ honest tree ready. not honest (ready.waiting page (contains_root w (reads old) (suc (d - 1)) page)) tree.0
    each TableFull never = absurd never
    each OutOfMemory never = absurd never
    each Closed closed = closed

-- a leaf is not taken
pub leaf_not_taken : (w : Widths) (d page : ℕ) (last : List ℕ) (refuses : List Item → Item → Type 0) (told : List Item → Type 0) (old new : StoreStated)
    → d ≡ 0 → (fault : PageFault) → TakeCause w Leaf page old new fault → WalkBelowCause w d page last refuses told old new (Store fault)
leaf_not_taken w d page last refuses told old new none fault cause =
    subst (λ (e : ℕ). WalkBelowCause w e page last refuses told old new (Store fault)) (sym none) (each fault cause)
  where
    each : (fault : PageFault) → TakeCause w Leaf page old new fault → WalkBelowCause w 0 page last refuses told old new (Store fault)
    each Disk grew = grew
    each NotATable never = absurd never
    each Damaged not = λ honest tree ready. not honest (ready.waiting page (contains_root w (reads old) 0 page)) tree
    each TableFull never = absurd never
    each OutOfMemory never = absurd never
    each Closed closed = closed

-- at one child of a page
module _ (w : Widths) (d page : ℕ) (body : List ℕ) (k child : ℕ) (c : Item) (old mid new : StoreStated) (last between : List ℕ)
    (told more : List Item → Type 0) (some : d ≢ 0) (marks : OnlyMarks old mid)
    (is : IsTrue old.disk.honest → body ≡ reads old page) (got : slice_get (items_in w Inner body) k ≡ Some c) (leads : child ≡ child_of c)
    (over : IsTrue old.disk.honest → AreOver w (reads old) (d - 1) page (items_in w Inner body) k old mid last between told more) where
  -- what is said of the child as it reads now holds as it read at first
  at_first : IsTrue old.disk.honest → (P : (ℕ → List ℕ) → ℕ → Type 0) → P (reads mid) child → P (reads old) (child_of c)
  at_first honest P holds = subst (P (reads old)) leads (subst (λ (bytes : ℕ → List ℕ). P bytes child) (reads_marked old mid honest marks) holds)

  branch : IsTrue old.disk.honest → IsTree w (reads old) (suc (d - 1)) page → IsBranch w (reads old) (d - 1) c
  branch honest tree = all_got (IsBranch w (reads old) (d - 1)) (items_in w Inner (reads old page)) k c tree.1
      (subst (λ (b : List ℕ). slice_get (items_in w Inner b) k ≡ Some c) (is honest) got)

  ready : IsTrue old.disk.honest → AreReady (pages_below w (reads old) (suc (d - 1)) page) (entries_below w (reads old) (suc (d - 1)) page) old last
      → AreReady (pages_at w (reads old) (d - 1) c) (entries_at w (reads old) (d - 1) c) mid between
  ready honest whole = child_ready w (reads old) (d - 1) page (items_in w Inner body) k c old mid last between told more (over honest) got
      (subst (λ (b : List ℕ). AreReady (page ∷ flat_map (pages_at w (reads old) (d - 1)) (items_in w Inner b))
      (flat_map (entries_at w (reads old) (d - 1)) (items_in w Inner b)) old last) (sym (is honest)) whole)

  pub child_fails : (refuses : List Item → Item → Type 0) (fault : WalkFault)
      → WalkBelowCause w (d - 1) child between refuses more mid new fault → WalkBelowCause w d page last refuses told old new fault
  child_fails refuses fault cause = subst (λ (e : ℕ). WalkBelowCause w e page last refuses told old new fault) (deeper d some) (each fault cause)
    where
      each : (fault : WalkFault) → WalkBelowCause w (d - 1) child between refuses more mid new fault
          → WalkBelowCause w (suc (d - 1)) page last refuses told old new fault
      each (Store Disk) grew = grew_before old.failures mid.failures new.failures marks.works.failures grew
      each (Store NotATable) never = absurd never
      each (Store Damaged) not = λ honest tree whole.
          at_first honest (λ bytes q. IsTree w bytes (d - 1) q
          → AreReady (pages_below w bytes (d - 1) q) (entries_below w bytes (d - 1) q) mid between → ⊥) (not (still_honest marks.works.goes_on honest))
          (branch honest tree).0 (ready honest whole)
      each (Store TableFull) never = absurd never
      each (Store OutOfMemory) never = absurd never
      each (Store Closed) closed = sym marks.closed ∙ closed
      each Refused refused = λ honest before was.
          subst (λ (b : List ℕ). IsRefusedAmong refuses before (flat_map (entries_at w (reads old) (d - 1)) (items_in w Inner b))) (is honest)
          (child_refused w (reads old) (d - 1) page (items_in w Inner body) k c old mid last between told more (over honest) got refuses
          (at_first honest (λ bytes q. (after : List Item) → more after → IsRefusedAmong refuses after (entries_below w bytes (d - 1) q))
          (refused (still_honest marks.works.goes_on honest)))
          before was)

  module _ (first now : List ℕ) (most : List Item → Type 0)
      (walked : IsTrue mid.disk.honest → IsWalked w (reads mid) (d - 1) child first mid new between now more most) where
    walked_first : IsTrue old.disk.honest → IsWalked w (reads old) (d - 1) (child_of c) first mid new between now more most
    walked_first honest = at_first honest (λ bytes q. IsWalked w bytes (d - 1) q first mid new between now more most)
        (walked (still_honest marks.works.goes_on honest))

    pub over_next : first ≡ c.0 → IsTrue old.disk.honest → AreOver w (reads old) (d - 1) page (items_in w Inner body) (k + 1) old new last now told most
    over_next same honest = over_more w (reads old) (d - 1) page (items_in w Inner body) k c old mid last between told more (over honest) got new first now most
        marks.works.same_pages same (walked_first honest)

    pub wrong_first : (refuses : List Item → Item → Type 0) → first ≢ c.0 → WalkBelowCause w d page last refuses told old new (Store Damaged)
    wrong_first refuses other = subst (λ (e : ℕ). WalkBelowCause w e page last refuses told old new (Store Damaged)) (deeper d some) (λ honest tree whole.
        let one : Some first ≡ Some c.0 = sym (walked_first honest).first_is ∙ (branch honest tree).1 in
        other (cc))

-- all children of a page are walked
pub inner_walked : (w : Widths) (d page : ℕ) (body : List ℕ) (k : ℕ) (old now : StoreStated) (last between : List ℕ)
    (told more : List Item → Type 0) (first : List ℕ) → d ≢ 0 → body ≡ reads old page
    → IsPage w Inner body → length (items_in w Inner body) ≤ k → first_key (items_in w Inner body) ≡ Some first
    → AreOver w (reads old) (d - 1) page (items_in w Inner body) k old now last between told more
    → IsWalked w (reads old) d page first old now last between told more
inner_walked w d page body k old now last between told more first some is form many first_is over =
    subst (λ (e : ℕ). IsWalked w (reads old) e page first old now last between told more) (deeper d some)
    (over_all w (reads old) (d - 1) page body k old now last between told more first is form many first_is over)
