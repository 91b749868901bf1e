-- The four trees are walked, one after another.
use Rattle.page_store.specs.lemmas.Frames.{marks_none, marks_then}
use Rattle.std.proofs.Common.{◌≡◌, ◌≢◌, ℕ, List, length, Contains, IsTrue, refl, sym, ◌∙◌, subst}
use Rattle.sector_disk.specs.lemmas.Moments.{still_honest}
use Rattle.page_store.specs.Frames.{OnlyMarks}
use Rattle.page_store.specs.declared.fault.PageFault.{PageFault}
use Rattle.page_store.specs.declared.fault.PageFault.TheVariants.{Disk, NotATable, Damaged, TableFull, OutOfMemory, Closed}
use Rattle.page_store.specs.declared.marks.Mark.TheVariants.{Committed}
use Rattle.page_store.specs.Marks.{mark}
use Rattle.page_store.specs.Store.{Store, reads}
use Rattle.game_file.specs.declared.sizes.Sizes.{Sizes}
use Rattle.btree.specs.lemmas.Unchanged.{grew_before}
use Rattle.btree.specs.Page.{Item}
use Rattle.page_store.specs.Pages.{AreWaiting}
use Rattle.tree_table.specs.declared.slot.TreeSlot.{TreeSlot}
use Rattle.tree_table.specs.declared.tree.Tree.{Tree}
use Rattle.tree_table.specs.declared.tree.Tree.TheVariants.{Positions, Records, Edges, Order}
use Rattle.tree_table.specs.Forest.{AreApart, IsTreeOf}
use Rattle.tree_table.specs.Trees.{root_of}
use Rattle.tree_file.specs.Counted.{AreAsMany}
use Rattle.tree_file.specs.Walked.{CanBeWalked, AreWalked, ForestCause}
use Rattle.tree_file.specs.lemmas.One.{HoldsTree, IsAsMany, IsWalkedTree, TreeCause}
use Rattle.tree_file.specs.lemmas.MarkedPages.{reads_as_before, stays_marked, later_apart, apart_turned}
use Rattle.tree_file.specs.lemmas.OneTree.{one_tree}

-- a tree is as many as the sizes tell where all four are
as_many : (sizes : Sizes) (entries : Tree → List Item) → AreAsMany sizes entries → (t : Tree) → IsAsMany sizes t (entries t)
as_many sizes entries many Positions = many.positions
as_many sizes entries many Records = many.records
as_many sizes entries many Edges = (many.edges, many.between)
as_many sizes entries many Order = many.order

-- this tree is walked
abbrev pub Walked : TreeSlot → Tree → Store → Store → Type 0
Walked slot tree old new = (pages : List ℕ) × (es : List Item) × IsWalkedTree slot tree (IsAsMany slot.sizes tree) pages es old new

-- if the four trees could be walked at first, the pages of this one are marked as they were then
abbrev pub Stays : TreeSlot → Tree → Store → Store → Type 0
Stays slot tree old now = IsTrue old.disk.honest → (pages : Tree → List ℕ) (entries : Tree → List Item) → CanBeWalked slot pages entries old
    → (p : ℕ) → Contains (pages tree) p → mark now.marks p ≡ mark old.marks p

module _ (slot : TreeSlot) (old now : Store) (honest : IsTrue old.disk.honest) (only : OnlyMarks old now) (tree : Tree) (pages : List ℕ) (es : List Item) where
  Is : ℕ → (ℕ → List ℕ) → Type 0
  Is capacity bytes = IsTreeOf slot.sizes.packed tree capacity (root_of slot.roots tree) pages es bytes

  held_before : HoldsTree slot tree now pages es → HoldsTree slot tree old pages es
  unfolding Is
  held_before holds = subst (λ (n : ℕ). Is n (reads old)) only.works.same_pages (subst (Is (length now.marks)) (reads_as_before old now honest only) holds)

  held_after : HoldsTree slot tree old pages es → HoldsTree slot tree now pages es
  unfolding Is
  held_after holds = subst (λ (n : ℕ). Is n (reads now)) (sym only.works.same_pages)
      (subst (Is (length old.marks)) (sym (reads_as_before old now honest only)) holds)

pub stays_none : (slot : TreeSlot) (tree : Tree) (store : Store) → Stays slot tree store store
stays_none slot tree store honest pages entries can p here = refl

-- another tree is walked meanwhile
pub stays_then : (slot : TreeSlot) (walked tree : Tree) (old mid new : Store) → walked ≢ tree → OnlyMarks old mid
    → (IsTrue mid.disk.honest → Walked slot walked mid new)
    → Stays slot tree old mid → Stays slot tree old new
stays_then slot walked tree old mid new other only walk stays honest pages entries can p here =
    let (its, es, done) = walk (still_honest only.works.goes_on honest) in
    let same = one_tree slot.sizes.packed walked (length old.marks) (root_of slot.roots walked) its (pages walked) es (entries walked) (reads old)
    (held_before slot old mid honest only walked its es done.holds) (can.trees walked) in
    let not_there = λ (there : Contains its p). can.apart walked tree other p (subst (λ (ps : List ℕ). Contains ps p) same.0 there) here in
    done.marked.kept p not_there ∙ stays honest pages entries can p here

after_first : (slot : TreeSlot) (tree : Tree) (a b : Store) → Positions ≢ tree → (IsTrue a.disk.honest → Walked slot Positions a b) → Stays slot tree a b
after_first slot tree a b other one = stays_then slot Positions tree a a b other (marks_none a) one (stays_none slot tree a)

-- a tree is not walked
pub tree_fails : (slot : TreeSlot) (tree : Tree) (old mid new : Store) → OnlyMarks old mid → Stays slot tree old mid → (fault : PageFault)
    → TreeCause slot tree (IsAsMany slot.sizes tree) mid new fault → ForestCause slot old new fault
tree_fails slot tree old mid new only stays Disk grew = grew_before old.failures mid.failures new.failures only.works.failures grew
tree_fails slot tree old mid new only stays NotATable never = never
tree_fails slot tree old mid new only stays Damaged not = λ honest pages entries can.
    not (still_honest only.works.goes_on honest) (pages tree) (entries tree)
    (held_after slot old mid honest only tree (pages tree) (entries tree) (can.trees tree))
    (λ p here. stays honest pages entries can p here ∙ can.waiting tree p here) (as_many slot.sizes entries can.many tree)
tree_fails slot tree old mid new only stays TableFull never = never
tree_fails slot tree old mid new only stays OutOfMemory never = never
tree_fails slot tree old mid new only stays Closed closed = sym only.closed ∙ closed

-- the first tree is not walked, or a later one
pub first_fails : (slot : TreeSlot) (a b : Store) (fault : PageFault) → TreeCause slot Positions (IsAsMany slot.sizes Positions) a b fault
    → ForestCause slot a b fault
first_fails slot a b = tree_fails slot Positions a a b (marks_none a) (stays_none slot Positions a)

pub second_fails : (slot : TreeSlot) (a b c : Store) → OnlyMarks a b → (IsTrue a.disk.honest → Walked slot Positions a b) → (fault : PageFault)
    → TreeCause slot Records (IsAsMany slot.sizes Records) b c fault → ForestCause slot a c fault
second_fails slot a b c ab one = tree_fails slot Records a b c ab (after_first slot Records a b (λ e. cc) one)

pub third_fails : (slot : TreeSlot) (a b c d : Store) → OnlyMarks a b → OnlyMarks b c → (IsTrue a.disk.honest → Walked slot Positions a b)
    → (IsTrue b.disk.honest → Walked slot Records b c)
    → (fault : PageFault) → TreeCause slot Edges (IsAsMany slot.sizes Edges) c d fault → ForestCause slot a d fault
third_fails slot a b c d ab bc one two =
    tree_fails slot Edges a c d (marks_then ab bc) (stays_then slot Records Edges a b c (λ e. cc) ab two (after_first slot Edges a b (λ e. cc) one))

pub fourth_fails : (slot : TreeSlot) (a b c d e : Store) → OnlyMarks a b → OnlyMarks b c → OnlyMarks c d → (IsTrue a.disk.honest → Walked slot Positions a b)
    → (IsTrue b.disk.honest → Walked slot Records b c) → (IsTrue c.disk.honest → Walked slot Edges c d)
    → (fault : PageFault) → TreeCause slot Order (IsAsMany slot.sizes Order) d e fault → ForestCause slot a e fault
fourth_fails slot a b c d e ab bc cd one two three =
    tree_fails slot Order a d e (marks_then (marks_then ab bc) cd)
    (stays_then slot Edges Order a c d (λ e. cc) (marks_then ab bc) three
    (stays_then slot Records Order a b c (λ e. cc) ab two (after_first slot Order a b (λ e. cc) one)))

-- one for each tree
abbrev of_four : {A : Type 0} → A → A → A → A → Tree → A
of_four a b c d Positions = a
of_four a b c d Records = b
of_four a b c d Edges = c
of_four a b c d Order = d

-- all four are walked
module _ (slot : TreeSlot) (a b c d e : Store) (honest : IsTrue a.disk.honest) (ab : OnlyMarks a b) (bc : OnlyMarks b c) (cd : OnlyMarks c d)
    (de : OnlyMarks d e)
    (p1 p2 p3 p4 : List ℕ) (e1 e2 e3 e4 : List Item) (one : IsWalkedTree slot Positions (IsAsMany slot.sizes Positions) p1 e1 a b)
    (two : IsWalkedTree slot Records (IsAsMany slot.sizes Records) p2 e2 b c)
    (three : IsWalkedTree slot Edges (IsAsMany slot.sizes Edges) p3 e3 c d) (four : IsWalkedTree slot Order (IsAsMany slot.sizes Order) p4 e4 d e) where
  abbrev the_pages : Tree → List ℕ
  the_pages = of_four p1 p2 p3 p4

  abbrev the_entries : Tree → List Item
  the_entries = of_four e1 e2 e3 e4

  ac : OnlyMarks a c
  ac = marks_then ab bc

  ad : OnlyMarks a d
  ad = marks_then ac cd

  held : (t : Tree) → HoldsTree slot t a (the_pages t) (the_entries t)
  held Positions = one.holds
  held Records = held_before slot a b honest ab Records p2 e2 two.holds
  held Edges = held_before slot a c honest ac Edges p3 e3 three.holds
  held Order = held_before slot a d honest ad Order p4 e4 four.holds

  waited : (t : Tree) → AreWaiting (the_pages t) a
  waited Positions = one.marked.waited
  waited Records = λ p here. ab.works.waiting p (two.marked.waited p here)
  waited Edges = λ p here. ac.works.waiting p (three.marked.waited p here)
  waited Order = λ p here. ad.works.waiting p (four.marked.waited p here)

  marked : (t : Tree) (p : ℕ) → Contains (the_pages t) p → mark e.marks p ≡ Committed
  marked Positions p here = stays_marked (marks_then bc (marks_then cd de)) p (one.marked.marked p here)
  marked Records p here = stays_marked (marks_then cd de) p (two.marked.marked p here)
  marked Edges p here = stays_marked de p (three.marked.marked p here)
  marked Order p here = four.marked.marked p here

  apart : (t u : Tree) → t ≢ u → AreApart (the_pages t) (the_pages u)
  apart Positions Positions other = absurd (other refl)
  apart Positions Records other = later_apart p1 p2 a b b c one.marked (marks_none b) two.marked
  apart Positions Edges other = later_apart p1 p3 a b c d one.marked bc three.marked
  apart Positions Order other = later_apart p1 p4 a b d e one.marked (marks_then bc cd) four.marked
  apart Records Positions other = apart_turned p1 p2 (later_apart p1 p2 a b b c one.marked (marks_none b) two.marked)
  apart Records Records other = absurd (other refl)
  apart Records Edges other = later_apart p2 p3 b c c d two.marked (marks_none c) three.marked
  apart Records Order other = later_apart p2 p4 b c d e two.marked cd four.marked
  apart Edges Positions other = apart_turned p1 p3 (later_apart p1 p3 a b c d one.marked bc three.marked)
  apart Edges Records other = apart_turned p2 p3 (later_apart p2 p3 b c c d two.marked (marks_none c) three.marked)
  apart Edges Edges other = absurd (other refl)
  apart Edges Order other = later_apart p3 p4 c d d e three.marked (marks_none d) four.marked
  apart Order Positions other = apart_turned p1 p4 (later_apart p1 p4 a b d e one.marked (marks_then bc cd) four.marked)
  apart Order Records other = apart_turned p2 p4 (later_apart p2 p4 b c d e two.marked cd four.marked)
  apart Order Edges other = apart_turned p3 p4 (later_apart p3 p4 c d d e three.marked (marks_none d) four.marked)
  apart Order Order other = absurd (other refl)

  pub all_walked : (pages : Tree → List ℕ) × (entries : Tree → List Item) × AreWalked slot pages entries a e
  all_walked = (
    the_pages,
    the_entries,
    record {
      could = record {
        trees = held;
        apart = apart;
        many = record { positions = one.such; records = two.such; edges = three.such.0; order = four.such; between = three.such.1 };
        waiting = waited;
      };
      marked = marked;
      kept = λ p none.
          let later : mark e.marks p ≡ mark c.marks p = four.marked.kept p (none Order) ∙ three.marked.kept p (none Edges) in
          later ∙ two.marked.kept p (none Records) ∙ one.marked.kept p (none Positions);
    },
  )

-- each walk found its tree
pub four_walked : (slot : TreeSlot) (a b c d e : Store) → IsTrue a.disk.honest → OnlyMarks a b → OnlyMarks b c → OnlyMarks c d → OnlyMarks d e
    → (IsTrue a.disk.honest → Walked slot Positions a b) → (IsTrue b.disk.honest → Walked slot Records b c) → (IsTrue c.disk.honest → Walked slot Edges c d)
    → (IsTrue d.disk.honest → Walked slot Order d e) → (pages : Tree → List ℕ) × (entries : Tree → List Item) × AreWalked slot pages entries a e
four_walked slot a b c d e honest ab bc cd de one two three four =
    let at_b = still_honest ab.works.goes_on honest in
    let at_c = still_honest bc.works.goes_on at_b in
    let at_d = still_honest cd.works.goes_on at_c in
    let (p1, e1, w1) = one honest in
    let (p2, e2, w2) = two at_b in
    let (p3, e3, w3) = three at_c in
    let (p4, e4, w4) = four at_d in
    all_walked slot a b c d e honest ab bc cd de p1 p2 p3 p4 e1 e2 e3 e4 w1 w2 w3 w4
