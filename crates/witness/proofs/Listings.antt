-- What is known of open listings from one line to the next.
use Rattle.std.proofs.Common.{◌≡◌, ◌≢◌, ◌⊎◌, inl, inr, ◌∙◌, refl, sym, ap, subst, ℕ, suc, ◌+◌, true, nat_eq, List, [], ◌∷◌, ◌++◌, length}
use Rattle.std.proofs.Common.{Option, None, Some, IsSome, append-nil, arith}
use Rattle.std.specs.Prelude.{IsTrue, codes}
use Rattle.std.specs.List.{flat_map}
use Rattle.std.proofs.lemmas.Bool.{eqb-true}
use Rattle.std.proofs.lemmas.Fmt.{decimal_digit}
use Rattle.std.proofs.lemmas.List.{same_from_push}
use Rattle.sector_disk.specs.lemmas.Moments.{still_honest}
use Rattle.rbg_game.specs.Games.{Game}
use Rattle.rbg_game.specs.declared.roles.Player.{Player}
use Rattle.rbg_read.specs.declared.fault.GameFault.TheVariants as game_fault
use Rattle.retrograde.specs.Stored.{Stored, IsTable, view_of, loaded}
use Rattle.best_line.specs.declared.answers.Row.{Row}
use Rattle.best_line.specs.declared.answers.Value.{Value}
use Rattle.best_line.specs.declared.answers.Value.TheVariants.{Won, Drawn, Open}
use Rattle.best_line.specs.Values.{IsValue}
use Rattle.best_line.specs.Rows.{AreRows}
use Rattle.game_file.specs.Calls.{IsAsked}
use Rattle.game_file.specs.Kept.{Kept, Layout}
use Rattle.game_file.specs.State.{State}
use Rattle.solver.specs.declared.fault.SolverFault.{SolverFault}
use Rattle.solver.specs.declared.fault.SolverFault.TheVariants as fault
use Rattle.solver.specs.declared.listing.Listing.{Listing}
use Rattle.solver.specs.declared.replies.Reply.{Reply}
use Rattle.solver.specs.declared.replies.Reply.TheVariants.{Loaded, Worked, Refused}
use Rattle.solver.specs.Growth.{IsGrowth}
use Rattle.solver.specs.Listings.{IsKeptOver}
use Rattle.solver.specs.Machine.{work, Does}
use Rattle.solver.specs.Queries.{OfKept, IsGameOf}
use Rattle.solver.specs.Runs.{IsTurnWithCause}
use Rattle.solver.specs.Faults.{status_of}
use Rattle.session_lines.specs.Listed.{AllLast, IsNextText, IsNextTold, IsNoneOpen, IsBegun, IsNotBegun, IsNext, IsEnded, done_line}
use Rattle.session_lines.specs.Printed.{IsNextPrinted, ArePrinted, no_line, another_line, its_next}
use Rattle.session_lines.specs.Replies.{row_line}
use Rattle.witness.specs.Printed.{IsPrintedInTwo}
use Rattle.witness.specs.lemmas.Listings.{AllGoOn, StandsLast, IsBegunOf, HasPrinted, IsEndedOf}

-- a refusal has another status
no_refusal : (why : SolverFault) → 0 ≡ status_of why → ⊥
no_refusal fault.Damaged is = cc
no_refusal fault.Disk is = cc
no_refusal fault.OutOfMemory is = cc
no_refusal (fault.Game game_fault.OutOfMemory) is = cc
no_refusal why is = cc

not_refused : (why : SolverFault) (status : ℕ) → status ≡ 0 → status ≡ status_of why → ⊥
not_refused why status ok is = no_refusal why (sym ok ∙ is)

pub status_zero : (n : ℕ) → nat_eq n 0 ≡ true → n ≡ 0
status_zero n is = eqb-true n 0 is

-- a list with a last element is not empty
push_some : {A : Type 0} (xs : List A) (x : A) → xs ++ x ∷ [] ≡ [] → ⊥
push_some [] x is = cc
push_some (y ∷ xs) x is = cc

pub some_kept : (kept : Option Kept) → IsSome kept → (k : Kept) × (kept ≡ Some k)
some_kept None some = absurd cc
some_kept (Some k) some = (k, refl)

pub is_some : (kept : Option Kept) (k : Kept) → kept ≡ Some k → IsSome kept
is_some kept k is = subst (λ (o : Option Kept). IsSome o) (sym is) refl

some_again : (old new : Option Kept) → new ≡ old → IsSome old → IsSome new
some_again old new same some = subst (λ (k : Option Kept). IsSome k) (sym same) some

some_worked : (reply : Reply) (units : ℕ) (old new : Option Kept) → Does reply (work units) old new → IsSome old → IsSome new
some_worked Loaded units old new does some = absurd does
some_worked (Worked done counts) units old new does some = subst (λ (k : Option Kept). IsSome k) (sym does.worked) refl
some_worked (Refused why) units old new does some = some_again old new does some

module _ {F Version : Type 0} (Stores : ℕ → Layout) (state : F → State) (IsVersion : Version → Stored (List ℕ) → F → Type 0)
    (AreTwo : Version → Version → Type 0) where
  go_on_asked : (old new : F) → IsTrue (state old).disk.honest → IsAsked Stores (state old) (state new) → AllLast IsVersion old new
      → AllGoOn state IsVersion old new
  go_on_asked old new honest asked all = record {
    honest = still_honest asked.ahead.goes_on honest;
    loaded = some_again (state old).kept (state new).kept (asked.kept honest);
    all = all;
  }

  pub go_on_then : (old mid new : F) → AllGoOn state IsVersion old mid → AllGoOn state IsVersion mid new → AllGoOn state IsVersion old new
  go_on_then old mid new first second = record {
    honest = second.honest;
    loaded = λ some. second.loaded (first.loaded some);
    all = λ other table there. second.all other table (first.all other table there);
  }

  -- ---- the line `begin`

  pub begun_so : (UsedUp : Type 0) (old new : F) (before after : List (Listing Version)) (status : ℕ) (line : List ℕ) (kept : Kept)
      → IsTrue (state old).disk.honest → (state old).kept ≡ Some kept → IsAsked Stores (state old) (state new) → status ≡ 0
      → ((status ≡ 0) × IsBegun state IsVersion AreTwo old new before after line)
      ⊎ IsNotBegun state IsVersion AreTwo UsedUp old new before after status line
      → IsBegunOf state IsVersion AreTwo kept old new before after
  begun_so UsedUp old new before after status line kept honest is asked ok (inl (also, begun)) = record {
    version = begun.listing.version;
    stands = record { listing = begun.listing; is = begun.behind; version_is = refl; place_is = begun.first; of_table = begun.of_table kept is };
    is_table = begun.is_table kept is;
    apart = begun.apart;
    go_on = go_on_asked old new honest asked begun.others;
  }
  begun_so UsedUp old new before after status line kept honest is asked ok (inr not) = absurd (not_refused not.why status ok not.status_is)

  -- ---- the line `next`

  module _ (count : ℕ) (old new : F) (listings after : List (Listing Version)) (status : ℕ) (line : List ℕ)
      (table : Stored (List ℕ)) (before : List (Listing Version)) (version : Version) (place : ℕ)
      (stands : StandsLast state IsVersion table before version place old listings) where
    -- the listing that is moved is the one that stands last
    its_own : (it : IsNext state IsVersion AreTwo count old new listings after status line) → (it.others ≡ before) × (it.listing ≡ stands.listing)
    its_own it = same_from_push it.others before it.listing stands.listing (sym it.was ∙ stands.is)

    its_version : (it : IsNext state IsVersion AreTwo count old new listings after status line) → it.listing.version ≡ version
    its_version it = ap (λ (l : Listing Version). l.version) (its_own it).1 ∙ stands.version_is

    its_place : (it : IsNext state IsVersion AreTwo count old new listings after status line) → it.listing.next ≡ place
    its_place it = ap (λ (l : Listing Version). l.next) (its_own it).1 ∙ stands.place_is

    still_stands : (it : IsNext state IsVersion AreTwo count old new listings after status line)
        → StandsLast state IsVersion table before version it.moved.next new after
    still_stands it = record {
      listing = it.moved;
      is = it.is ∙ ap (λ (ls : List (Listing Version)). ls ++ it.moved ∷ []) (its_own it).0;
      version_is = it.same ∙ its_version it;
      place_is = refl;
      of_table = it.all version table stands.of_table;
    }

    pub stands_behind : (IsNoneOpen listings after status line × AllLast IsVersion old new)
        ⊎ IsNext state IsVersion AreTwo count old new listings after status line
        → (next : ℕ) × StandsLast state IsVersion table before version next new after × AllLast IsVersion old new
    stands_behind (inl (none, all)) = absurd (push_some before stands.listing (sym stands.is ∙ none.0))
    stands_behind (inr it) = (it.moved.next, still_stands it, it.all)

    pub printed_so : ((t : Stored (List ℕ)) (from next n : ℕ) (text : List ℕ) (kept : Option Kept) → IsNextText t from next n text kept
        → (rows : List Row) × IsNextPrinted t from next n text rows kept)
        → IsTrue (state old).disk.honest → IsSome (state old).kept → IsTable table → IsAsked Stores (state old) (state new) → status ≡ 0
        → (IsNoneOpen listings after status line × AllLast IsVersion old new)
        ⊎ IsNext state IsVersion AreTwo count old new listings after status line
        → HasPrinted state IsVersion table before version place count old new after line
    printed_so law honest some is_table asked ok (inl (none, all)) = absurd (push_some before stands.listing (sym stands.is ∙ none.0))
    printed_so law honest some is_table asked ok (inr it) =
        go (it.told some table is_table (subst (λ (v : Version). IsVersion v table old) (sym (its_version it)) stands.of_table))
      where
        go : IsNextTold state IsVersion AreTwo count old new table it.listing.next it.moved.next status line
            → HasPrinted state IsVersion table before version place count old new after line
        go (inl (also, told)) =
            let (rows, printed) = law table it.listing.next it.moved.next count line (state old).kept told in
            record {
              next = it.moved.next;
              rows = rows;
              printed = subst (λ (n : ℕ). IsNextPrinted table n it.moved.next count line rows (state old).kept) (its_place it) printed;
              stands = still_stands it;
              go_on = go_on_asked old new honest asked it.all;
            }
        go (inr (why, is, told, cause)) = absurd (not_refused why status ok is)

  -- the same listings, a while later
  pub still_stands_there : (table : Stored (List ℕ)) (before : List (Listing Version)) (version : Version) (place : ℕ) (old new : F)
      (listings after : List (Listing Version)) → StandsLast state IsVersion table before version place old listings
      → AllGoOn state IsVersion old new → after ≡ listings → StandsLast state IsVersion table before version place new after
  still_stands_there table before version place old new listings after stands go_on same = record {
    listing = stands.listing;
    is = same ∙ stands.is;
    version_is = stands.version_is;
    place_is = stands.place_is;
    of_table = go_on.all version table stands.of_table;
  }

  -- ---- the line `end`

  pub ended_so : (old mid new : F) (between after : List (Listing Version)) (status : ℕ) (line : List ℕ)
      (table : Stored (List ℕ)) (before : List (Listing Version)) (version : Version) (place : ℕ)
      → IsTrue (state old).disk.honest → IsSome (state old).kept → IsAsked Stores (state old) (state mid) → IsAsked Stores (state mid) (state new)
      → StandsLast state IsVersion table before version place mid between → AllLast IsVersion old mid
      → (IsNoneOpen between after status line × AllLast IsVersion mid new) ⊎ ((status ≡ 0) × IsEnded state IsVersion AreTwo mid new between after line)
      → IsEndedOf state IsVersion AreTwo before version old new after
  ended_so old mid new between after status line table before version place honest some first second stands all (inl (none, last)) =
      absurd (push_some before stands.listing (sym stands.is ∙ none.0))
  ended_so old mid new between after status line table before version place honest some first second stands all (inr (ok, it)) =
      let (same, last) = same_from_push after before it.listing stands.listing (sym it.was ∙ stands.is) in
      let its : it.listing.version ≡ version = ap (λ (l : Listing Version). l.version) last ∙ stands.version_is in
      let honest_mid = still_honest first.ahead.goes_on honest in
      record {
        same = same;
        honest = still_honest second.ahead.goes_on honest_mid;
        loaded = some_again (state mid).kept (state new).kept (second.kept honest_mid) (some_again (state old).kept (state mid).kept (first.kept honest) some);
        others = λ other t two there.
            it.others other t (subst (λ (v : Version). AreTwo other v) (sym its) two) (all other t there);
      }

  -- ---- lines between

  pub go_on_worked : (old mid new : F) (reply : Reply) (units pages : ℕ) → IsTrue (state old).disk.honest
      → IsTurnWithCause Stores (work units) reply (state old) (state mid) → IsGrowth Stores pages (state mid) (state new)
      → AllLast IsVersion old mid → AllLast IsVersion mid new → AllGoOn state IsVersion old new
  go_on_worked old mid new reply units pages honest turn growth first second =
      let honest_mid = still_honest turn.turn.ahead.goes_on honest in
      record {
        honest = still_honest growth.ahead.goes_on honest_mid;
        loaded = λ some. some_again (state mid).kept (state new).kept (growth.kept honest_mid)
            (some_worked reply units (state old).kept (state mid).kept (turn.turn.does honest) some);
        all = λ other table there. second other table (first other table there);
      }

  pub all_between : (old mid begun new : F) (kept : Kept) (before listings after : List (Listing Version)) → AllGoOn state IsVersion old mid
      → (it : IsBegunOf state IsVersion AreTwo kept mid begun before listings)
      → IsEndedOf state IsVersion AreTwo before it.version begun new after
      → AllGoOn state IsVersion old new × (after ≡ before)
  all_between old mid begun new kept before listings after first it ended = (
    record {
      honest = ended.honest;
      loaded = λ some. ended.loaded;
      all = λ other table there.
          let at_mid = first.all other table there in
          ended.others other table (it.apart other table at_mid) (it.go_on.all other table at_mid);
    },
    ended.same,
  )

  -- ---- both lines `next` of one listing

  kept_over : (version : Version) (old new : F) → AllGoOn state IsVersion old new → IsKeptOver state IsVersion version old new
  kept_over version old new go_on = λ table honest there. (go_on.honest, go_on.all version table there)

  pub printed_two : (version : Version) (table : Stored (List ℕ)) (before : List (Listing Version))
      (begun printed between new : F) (first second : ℕ) (after last : List (Listing Version)) (one other : List ℕ)
      → ((v : Version) (file : F) (t : Stored (List ℕ)) (asked : ℕ) (rows : List Row) → IsTrue (state file).disk.honest → IsVersion v t file
      → ArePrinted state IsVersion v t file 0 asked rows → AreRows (view_of t) 0 asked rows)
      → IsTrue (state begun).disk.honest → IsVersion version table begun
      → (it : HasPrinted state IsVersion table before version 0 first begun printed after one)
      → AllGoOn state IsVersion printed between
      → HasPrinted state IsVersion table before version it.next second between new last other
      → IsPrintedInTwo table first second (one ++ other)
  printed_two version table before begun printed between new first second after last one other law honest there it go_on more =
      let lines = its_next (kept_over version begun printed it.go_on) it.printed
      (another_line (kept_over version printed between go_on)
      (its_next (kept_over version between new more.go_on) more.printed no_line)) in
      let rows = law version begun table (first + (second + 0)) (it.rows ++ (more.rows ++ [])) honest there lines in
      let count : first + (second + 0) ≡ first + second = omega arith in
      record {
        one = one;
        other = other;
        here = it.rows;
        there = more.rows;
        next = it.next;
        end = more.next;
        at_first = (state begun).kept;
        at_last = (state between).kept;
        begins = it.printed;
        ends = more.printed;
        are = subst (λ (n : ℕ). AreRows (view_of table) 0 n (it.rows ++ more.rows)) count
            (subst (λ (rs : List Row). AreRows (view_of table) 0 (first + (second + 0)) (it.rows ++ rs)) (append-nil more.rows) rows);
        text_is = refl;
      }

-- by the numbers of rows that were asked for
pub printed_as : (table : Stored (List ℕ)) (first second m n : ℕ) (text : List ℕ) → first ≡ m → second ≡ n → IsPrintedInTwo table first second text
    → IsPrintedInTwo table m n text
printed_as table first second m n text one other it =
    subst (λ (k : ℕ). IsPrintedInTwo table k n text) one (subst (λ (k : ℕ). IsPrintedInTwo table first k text) other it)

-- ---- of a table that was just loaded

-- its one position is open
only_open : (start : List ℕ) (i : ℕ) (value : Value) → i ≡ 0 → IsValue (view_of (loaded start)) i value → value ≡ Open
only_open start i (Won w n) first is =
    let won : ◌≡◌ {A = Option (Player × ℕ)} None (Some (w, n)) = subst (λ (j : ℕ). (view_of (loaded start)).value j ≡ Some (w, n)) first is in absurd cc
only_open start i Drawn first is = let ended : ◌≡◌ {A = ℕ} 0 1 = is.1.all_expanded in absurd cc
only_open start i Open first is = refl

first_row : (start : List ℕ) (rows : List Row) → AreRows (view_of (loaded start)) 0 1 rows → rows ≡ record { number = 0; value = Open } ∷ []
first_row start [] are = let none : ◌≡◌ {A = ℕ} 0 1 = are.all in absurd cc
first_row start (row ∷ other ∷ rows) are = let more : ◌≡◌ {A = ℕ} (suc (suc (length rows))) 1 = are.all in absurd (omega (arith, more))
first_row start (row ∷ []) are =
    let number : row.number ≡ 0 = are.numbers 0 row refl in
    let value : row.value ≡ Open = only_open start row.number row.value number (are.values 0 row refl) in
    λ i. record { number = number i; value = value i } ∷ []

no_row : (start : List ℕ) (rows : List Row) → AreRows (view_of (loaded start)) 1 256 rows → rows ≡ []
no_row start [] are = refl
no_row start (row ∷ rows) are = let more : ◌≡◌ {A = ℕ} (suc (length rows)) 0 = are.all in absurd (omega (arith, more))

start_line : (game : Game) → flat_map (row_line game) (record { number = 0; value = Open } ∷ []) ≡ codes "0 open" ++ 10 ∷ []
start_line game = ap (λ (ds : List ℕ). (ds ++ 32 ∷ codes "open" ++ 10 ∷ []) ++ []) (decimal_digit 0 (omega arith))

line_of_start : (rows : List Row) (text : List ℕ) (kept : Option Kept) → rows ≡ record { number = 0; value = Open } ∷ []
    → ((rows ≡ []) × (text ≡ done_line))
    ⊎ ((rows ≢ []) × ((game : Game) × OfKept (IsGameOf game) kept × (text ≡ flat_map (row_line game) rows)))
    → text ≡ codes "0 open" ++ 10 ∷ []
line_of_start rows text kept is (inl (none, done)) =
    let both : ◌≡◌ {A = List Row} (record { number = 0; value = Open } ∷ []) [] = sym is ∙ none in absurd cc
line_of_start rows text kept is (inr (some, (game, of_game, text_is))) = text_is ∙ ap (λ (rs : List Row). flat_map (row_line game) rs) is ∙ start_line game

line_of_end : (rows : List Row) (text : List ℕ) (kept : Option Kept) → rows ≡ []
    → ((rows ≡ []) × (text ≡ done_line))
    ⊎ ((rows ≢ []) × ((game : Game) × OfKept (IsGameOf game) kept × (text ≡ flat_map (row_line game) rows)))
    → text ≡ done_line
line_of_end rows text kept is (inl (none, done)) = done
line_of_end rows text kept is (inr (some, told)) = absurd (some is)

-- so it is printed, and no other
pub as_it_began : (start text : List ℕ) → IsPrintedInTwo (loaded start) 1 256 text → text ≡ codes "0 open" ++ 10 ∷ codes "done" ++ 10 ∷ []
as_it_began start text it =
    let here = first_row start it.here it.begins.are in
    let many : length it.here ≡ 1 = ap (λ (rs : List Row). length rs) here in
    let next : it.next ≡ 1 = omega (arith, it.begins.next_is, many) in
    let there = no_row start it.there (subst (λ (n : ℕ). AreRows (view_of (loaded start)) n 256 it.there) next it.ends.are) in
    let one = line_of_start it.here it.one it.at_first here it.begins.text_is in
    let other = line_of_end it.there it.other it.at_last there it.ends.text_is in
    it.text_is ∙ (λ i. one i ++ other i)
