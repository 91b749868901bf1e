-- Boards and stands grow, and stand for configurations.
use Rattle.std.proofs.Common.{◌≡◌, ℕ, zero, suc, ◌<◌, ◌⊎◌, ◌==◌, ◌||◌, inl, inr, false, List, [], ◌∷◌, ◌++◌, length, map, Option, Some, None, slice_get, unwrap_or, refl, sym, ap, ◌∙◌, subst, arith, length-append}
use Rattle.std.proofs.lemmas.List.{length-map, map-append}
use Rattle.rbg_game.specs.declared.position.SemiState.{SemiState}
use Rattle.std.specs.List.{list_any}
use Rattle.std.specs.Option.{IfNone}
use Rattle.legal_moves.specs.lemmas.Boards.{at_turn, IsSameBoard, board_of, board_at, boards_in, AreWhole}
use Rattle.legal_moves.specs.lemmas.Buckets.{bucket_of_board}
use Rattle.legal_moves.specs.lemmas.Chains.{AreChained}
use Rattle.legal_moves.specs.lemmas.Configurations.{opening}
use Rattle.legal_moves.specs.lemmas.Progress.{IsTaken}
use Rattle.legal_moves.specs.lemmas.Stands.{stood, configurations_of, IsNewBoard, IsSameStand, bucket_at, AllStand, AreKept, IsNewStand, IsStandAdded}
use Rattle.legal_moves.specs.Configurations.{Configuration}
use Rattle.legal_moves.specs.declared.search.found.Stand.{Stand}
use Rattle.legal_moves.specs.declared.search.found.Found.{Found}
use Rattle.legal_moves.proofs.GetLemmas.{slice_get-append, slice_get-push}
use Rattle.legal_moves.proofs.searches.WidthLemmas.{map_at}

-- ---- what is the same is in one bucket

pub same_board_bucket : (A B : SemiState) → IsSameBoard A B → bucket_of_board A ≡ bucket_of_board B
same_board_bucket A B same = ap bucket_of_board same

pub same_stand_bucket : (s t : Stand) → IsSameStand s t → bucket_at s ≡ bucket_at t
same_stand_bucket s t same = rw (same.0, same.1, same.2) refl

IsSameBoard-sym : (A B : SemiState) → IsSameBoard A B → IsSameBoard B A
IsSameBoard-sym A B same = ap (λ x. at_turn x A.mover A.vertex) (sym same)

-- ---- the board with a number

pub board_is : (boards : List SemiState) (i : ℕ) (A : SemiState) → slice_get boards i ≡ Some A → board_at boards i ≡ A
board_is boards i A at = ap (λ o. unwrap_or o (board_of [] [])) at

pub board_there : (boards : List SemiState) (i : ℕ) → i < length boards → slice_get boards i ≡ Some (board_at boards i)
board_there [] i h = absurd (omega (arith, h))
board_there (A ∷ boards) zero h = refl
board_there (A ∷ boards) (suc i) h = board_there boards i (omega (arith, h))

board_kept : (boards : List SemiState) (B : SemiState) (i : ℕ) → i < length boards → board_at (boards ++ B ∷ []) i ≡ board_at boards i
board_kept boards B i inside = board_is (boards ++ B ∷ []) i (board_at boards i)
    (slice_get-append boards (B ∷ []) i (board_at boards i) (board_there boards i inside))

stood_kept : (boards : List SemiState) (B : SemiState) (s : Stand) → s.board < length boards → stood (boards ++ B ∷ []) s ≡ stood boards s
stood_kept boards B s inside = ap
    (λ A. let made : Configuration =
    record { at = record { state = at_turn A s.mover s.vertex; place = s.place }; parent = s.parent; shows = s.shows; ends = s.ends } in
    made) (board_kept boards B s.board inside)

-- more boards change no configuration
pub all_stood : (boards : List SemiState) (B : SemiState) (stands : List Stand) → AllStand boards stands
    → map (stood (boards ++ B ∷ [])) stands ≡ map (stood boards) stands
all_stood boards B [] within = refl
all_stood boards B (s ∷ stands) within =
    ap (λ c. c ∷ map (stood (boards ++ B ∷ [])) stands) (stood_kept boards B s (within 0 s refl))
    ∙ ap (λ cs. stood boards s ∷ cs) (all_stood boards B stands (λ i t at. within (suc i) t at))

-- ---- the opening alone

-- a board with the pieces and values of the semi-state
abbrev pub laid : SemiState → SemiState
laid S = board_of S.pieces.items S.values.items

abbrev pub first_stand : SemiState → Stand
first_stand S = record { board = 0; mover = S.mover; vertex = S.vertex; place = 0; parent = 0; shows = false; ends = false }

only : {A : Type 0} (x : A) (i : ℕ) (y : A) → slice_get (x ∷ []) i ≡ Some y → (i ≡ 0) × (y ≡ x)
only x zero y h = (refl, cc)
only x (suc i) y h = absurd (cc)

pub begun_configurations : (bs : List SemiState) (ss : List Stand) (S : SemiState) → bs ≡ laid S ∷ [] → ss ≡ first_stand S ∷ []
    → map (stood bs) ss ≡ opening S ∷ []
begun_configurations bs ss S boards stands = ap (λ xs. map (stood xs) ss) boards ∙ ap (map (stood (laid S ∷ []))) stands

module _ (new : Found) (S : SemiState) (whole : AreWhole new.boards) (boards : boards_in new.boards ≡ laid S ∷ [])
    (stands : new.stands.items ≡ first_stand S ∷ []) where
  pub begun_kept : AreChained (bucket_of_board S ∷ []) new.board_chains → AreChained (bucket_at (first_stand S) ∷ []) new.stand_chains → AreKept new
  begun_kept board_chains stand_chains = record {
    whole = whole;
    within = λ i s at.
        let is : s ≡ first_stand S = (only (first_stand S) i s (subst (λ ss. slice_get ss i ≡ Some s) stands at)).1 in
        let none : s.board ≡ 0 = ap (λ x. x.board) is in
        omega (arith, none, ap length boards);
    apart = λ i j A C at to same. (only (laid S) i A (subst (λ bs. slice_get bs i ≡ Some A) boards at)).0
        ∙ sym (only (laid S) j C (subst (λ bs. slice_get bs j ≡ Some C) boards to)).0;
    boards_are = subst (λ bs. AreChained (map bucket_of_board bs) new.board_chains) (sym boards) board_chains;
    stands_are = subst (λ ss. AreChained (map bucket_at ss) new.stand_chains) (sym stands) stand_chains;
  }

-- ---- one board more

pub unlike_by : (boards : List SemiState) (B : SemiState) (found : Option ℕ) → IfNone found (IsNewBoard boards B) → found ≡ None → IsNewBoard boards B
unlike_by boards B found h none = subst (λ o. IfNone o (IsNewBoard boards B)) none h

-- a board that is the same as the one that is laid is the same as the semi-state
laid_same : (A B : SemiState) → IsSameBoard A (laid B) → IsSameBoard A B
laid_same A B same = ap (λ x. at_turn x B.mover B.vertex) same

module _ (old new : Found) (B : SemiState) (kept : AreKept old) (stands : new.stands.items ≡ old.stands.items) (whole : AreWhole new.boards)
    (pushed : boards_in new.boards ≡ boards_in old.boards ++ laid B ∷ []) where
  apart : IsNewBoard (boards_in old.boards) B → (i j : ℕ) (A C : SemiState) → IsSameBoard A C
      → (slice_get (boards_in old.boards) i ≡ Some A) ⊎ (i ≡ length (boards_in old.boards)) × (A ≡ laid B)
      → (slice_get (boards_in old.boards) j ≡ Some C) ⊎ (j ≡ length (boards_in old.boards)) × (C ≡ laid B) → i ≡ j
  apart unlike i j A C same (inl at) (inl to) = kept.apart i j A C at to same
  apart unlike i j A C same (inl at) (inr to) = absurd (unlike i A at (laid_same A B (subst (IsSameBoard A) to.1 same)))
  apart unlike i j A C same (inr at) (inl to) = absurd (unlike j C to (laid_same C B (subst (IsSameBoard C) at.1 (IsSameBoard-sym A C same))))
  apart unlike i j A C same (inr at) (inr to) = at.0 ∙ sym to.0

  pub kept_board : IsNewBoard (boards_in old.boards) B → AreChained
      (map bucket_of_board (boards_in old.boards) ++ bucket_of_board B ∷ []) new.board_chains → new.stand_chains ≡ old.stand_chains → AreKept new
  kept_board unlike chained chains = record {
    whole = whole;
    within = λ i s at. let less = kept.within i s (subst (λ ss. slice_get ss i ≡ Some s) stands at) in
        subst (λ bs. s.board < length bs) (sym pushed) (omega (arith, less, length-append (boards_in old.boards) (laid B ∷ [])));
    apart = λ i j A C at to same. apart unlike i j A C same
        (slice_get-push (boards_in old.boards) (laid B) i A (subst (λ bs. slice_get bs i ≡ Some A) pushed at))
        (slice_get-push (boards_in old.boards) (laid B) j C (subst (λ bs. slice_get bs j ≡ Some C) pushed to));
    boards_are = subst (λ bs. AreChained bs new.board_chains)
        (sym (ap (map bucket_of_board) pushed ∙ map-append bucket_of_board (boards_in old.boards) (laid B ∷ []))) chained;
    stands_are = subst (λ cs. AreChained (map bucket_at new.stands.items) cs) (sym chains)
        (subst (λ ss. AreChained (map bucket_at ss) old.stand_chains) (sym stands) kept.stands_are);
  }

pub same_configurations : (bs bs' : List SemiState) (ss : List Stand) (B : SemiState) → AllStand bs ss → bs' ≡ bs ++ B ∷ []
    → map (stood bs') ss ≡ map (stood bs) ss
same_configurations bs bs' ss B within pushed = ap (λ xs. map (stood xs) ss) pushed ∙ all_stood bs B ss within

-- ---- one stand more

module _ (old new : Found) (s : Stand) (kept : AreKept old) (on : s.board < length (boards_in old.boards))
    (boards : new.boards ≡ old.boards) (pushed : new.stands.items ≡ old.stands.items ++ s ∷ [])
    (chained : AreChained (map bucket_at old.stands.items ++ bucket_at s ∷ []) new.stand_chains) (chains : new.board_chains ≡ old.board_chains) where
  on_board : (i : ℕ) (t : Stand) → (slice_get old.stands.items i ≡ Some t) ⊎ (i ≡ length old.stands.items) × (t ≡ s) → t.board < length (boards_in old.boards)
  on_board i t (inl at) = kept.within i t at
  on_board i t (inr at) = subst (λ x. x.board < length (boards_in old.boards)) (sym at.1) on

  pub kept_stand : AreKept new
  kept_stand = record {
    whole = subst AreWhole (sym boards) kept.whole;
    within = λ i t at. subst (λ b. t.board < length (boards_in b)) (sym boards)
        (on_board i t (slice_get-push old.stands.items s i t (subst (λ ss. slice_get ss i ≡ Some t) pushed at)));
    apart = subst (λ b. (i j : ℕ) (A C : SemiState) → slice_get (boards_in b) i ≡ Some A → slice_get (boards_in b) j ≡ Some C
        → IsSameBoard A C → i ≡ j) (sym boards) kept.apart;
    boards_are = subst (λ cs. AreChained (map bucket_of_board (boards_in new.boards)) cs) (sym chains)
        (subst (λ b. AreChained (map bucket_of_board (boards_in b)) old.board_chains) (sym boards) kept.boards_are);
    stands_are = subst (λ bs. AreChained bs new.stand_chains) (sym (ap (map bucket_at) pushed ∙ map-append bucket_at old.stands.items (s ∷ []))) chained;
  }

-- ---- as configurations

-- the configuration at an index is that of the stand there
pub stand_at : (boards : List SemiState) (stands : List Stand) (i : ℕ) (c : Configuration)
    → slice_get (map (stood boards) stands) i ≡ Some c → (s : Stand) × (slice_get stands i ≡ Some s) × (c ≡ stood boards s)
stand_at boards [] i c h = absurd (cc)
stand_at boards (s ∷ stands) zero c h = (s, refl, cc)
stand_at boards (s ∷ stands) (suc i) c h = stand_at boards stands i c h

pub stood_at : (boards : List SemiState) (stands : List Stand) (i : ℕ) (s : Stand) → slice_get stands i ≡ Some s
    → slice_get (map (stood boards) stands) i ≡ Some (stood boards s)
stood_at boards stands i s at = map_at (stood boards) stands i s at

-- configurations at one position are one stand
pub same_position : (found : Found) → AreKept found → (s t : Stand) → s.board < length (boards_in found.boards)
    → t.board < length (boards_in found.boards) → (stood (boards_in found.boards) s).at ≡ (stood (boards_in found.boards) t).at → IsSameStand s t
same_position found kept s t on_s on_t same =
    let boards = boards_in found.boards in
    let B = board_at boards t.board in
    let alike : IsSameBoard (board_at boards s.board) B = ap (λ p. at_turn p.state B.mover B.vertex) same in (
      kept.apart s.board t.board (board_at boards s.board) B (board_there boards s.board on_s) (board_there boards t.board on_t) alike,
      ap (λ p. p.state.vertex) same,
      ap (λ p. p.place) same,
      ap (λ p. p.state.mover) same,
    )

pub new_stand_position : (found : Found) → AreKept found → (t : Stand) → t.board < length (boards_in found.boards)
    → IsNewStand found.stands.items t → (i : ℕ) (d : Configuration) → slice_get (configurations_of found) i ≡ Some d
    → ¬ (d.at ≡ (stood (boards_in found.boards) t).at)
new_stand_position found kept t on new i d at same =
    let s = stand_at (boards_in found.boards) found.stands.items i d at in
    new i s.0 s.1 (same_position found kept s.0 t (kept.within i s.0 s.1) on (sym (ap (λ c. c.at) s.2) ∙ same))

-- a stand that was added is a configuration that was taken
pub taken_stand : (old new : Found) → AreKept old → (t : Stand) → t.board < length (boards_in old.boards) → new.boards ≡ old.boards
    → IsStandAdded old.stands.items t new.stands.items → IsTaken (configurations_of old) (stood (boards_in old.boards) t) (configurations_of new)
taken_stand old new kept t on boards (inl g) =
    let bs = boards_in old.boards in
    let same : (stood bs g.2).at ≡ (stood bs t).at = rw (g.4.0, g.4.1, g.4.2, g.4.3) refl in
    inl (
      ap (λ b. map (stood (boards_in b)) new.stands.items) boards ∙ ap (map (stood bs)) g.0,
      g.1,
      stood bs g.2,
      stood_at bs old.stands.items g.1 g.2 g.3,
      same,
    )
taken_stand old new kept t on boards (inr g) =
    let bs = boards_in old.boards in
    inr (
      ap (λ b. map (stood (boards_in b)) new.stands.items) boards ∙ ap (map (stood bs)) g.0
          ∙ map-append (stood bs) old.stands.items (t ∷ []),
      omega (arith, g.1, length-map old.stands.items (stood bs)),
      new_stand_position old kept t on g.2,
    )

-- whether some stand is at one of these numbers, said of configurations
pub any_stand : (boards : List SemiState) (stands : List Stand) (last : List ℕ)
    → list_any (λ c. list_any (λ k. k == c.at.place) last) (map (stood boards) stands) ≡ list_any (λ s. list_any (λ k. k == s.place) last) stands
any_stand boards [] last = refl
any_stand boards (s ∷ stands) last = ap (λ b. list_any (λ k. k == s.place) last || b) (any_stand boards stands last)
