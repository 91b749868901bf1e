-- The positions that play can come to, by their bytes.
use Rattle.std.proofs.Common.{◌≡◌, ℕ, ◌⊎◌, inl, inr, None, Some, List, [], ◌∷◌, Contains, refl, sym, ap, ◌∙◌, subst, arith}
use Rattle.rbg_game.specs.Sound.{IsSoundGame}
use Rattle.rbg_game.specs.Positions.{IsPositionOf}
use Rattle.rbg_game.specs.declared.position.Position.{Position}
use Rattle.rbg_game.specs.declared.roles.Player.TheVariants.{First}
use Rattle.rbg_game.specs.declared.roles.Role.TheVariants.{Keeper, Player}
use Rattle.rbg_read.proofs.SoundGames.{read_sound}
use Rattle.position_pack.specs.declared.kind.PackingKind.{PackingKind}
use Rattle.position_pack.specs.Shape.{shape_of}
use Rattle.position_pack.specs.Packings.{packed_by}
use Rattle.retrograde.specs.Graph.{Graph, IsEnded, IsReachable}
use Rattle.retrograde.specs.Expands.{IsChoice}
use Rattle.legal_moves.specs.Moves.{IsSuccessor}
use Rattle.legal_moves.specs.Sources.{IsAt, IsWideAt, graph_of}
use Rattle.legal_moves.proofs.automata.CompiledLemmas.{start_position}
use Rattle.legal_moves.proofs.answers.FieldLemmas.{role_is, leader_is}
use Rattle.legal_moves.proofs.answers.ReachLemmas.{position_of}
use Rattle.legal_moves.proofs.answers.SourceLemmas.{one_position, narrow_at}
use Rattle.legal_moves.proofs.searches.WidthLemmas.{contains_by_get}
use Rattle.witness.specs.Game.{witness_text, witness_game, white_chooses, black_has_won, white_has_won}
use Rattle.witness.proofs.TextReads.{witness_read}
use Rattle.witness.proofs.Moves.{start, only_hands_over, only_two, play_is_over, keeper_hands_over, white_may_lose, white_may_win}
use Rattle.witness.proofs.Moves.{start_is_narrow, choice_is_narrow, end_is_narrow}

pub sound : IsSoundGame witness_game
sound = read_sound witness_text witness_game witness_read

-- ---- positions and their bytes

start_is_one : IsPositionOf witness_game start
start_is_one = start_position witness_game sound

chooses_is_one : IsPositionOf witness_game white_chooses
chooses_is_one = position_of witness_game start white_chooses sound start_is_one keeper_hands_over

black_is_one : IsPositionOf witness_game black_has_won
black_is_one = position_of witness_game white_chooses black_has_won sound chooses_is_one white_may_lose

white_is_one : IsPositionOf witness_game white_has_won
white_is_one = position_of witness_game white_chooses white_has_won sound chooses_is_one white_may_win

-- the graph of the game, and the bytes of a position, by either packing
abbrev pub graph : PackingKind → Graph (List ℕ)
graph kind = graph_of kind None witness_game

abbrev pub packed : PackingKind → Position → List ℕ
packed kind at = packed_by kind (shape_of witness_game) at

module _ (kind : PackingKind) where
  here : (at : Position) → IsPositionOf witness_game at → IsAt kind witness_game (packed kind at) at
  here at is = record { position_is = is; bytes_are = refl }

  -- a move between bytes is one between their positions
  move_of : (at : Position) → IsPositionOf witness_game at → (y : List ℕ) → (graph kind).Successor (packed kind at) y
      → (next : Position) × IsSuccessor witness_game at next × (y ≡ packed kind next)
  move_of at is y (other, next, from, to, leads) = (
    next,
    subst (λ p. IsSuccessor witness_game p next)
        (one_position kind witness_game sound (packed kind at) at other (here at is) from) leads,
    to.bytes_are,
  )

  pub hands_over : (graph kind).Successor (graph kind).start (packed kind white_chooses)
  hands_over = (start, white_chooses, here start start_is_one, here white_chooses chooses_is_one, keeper_hands_over)

  pub takes_the_win : (graph kind).Successor (packed kind white_chooses) (packed kind white_has_won)
  takes_the_win = (white_chooses, white_has_won, here white_chooses chooses_is_one, here white_has_won white_is_one, white_may_win)

  -- each move from the start leads to where white chooses
  pub from_start : (y : List ℕ) → (graph kind).Successor (graph kind).start y → y ≡ packed kind white_chooses
  from_start y leads =
      let m = move_of start start_is_one y leads in
      m.2 ∙ ap (packed kind) (only_hands_over m.0 m.1)

  -- and each from there to an end
  from_choice : (y : List ℕ) → (graph kind).Successor (packed kind white_chooses) y → (y ≡ packed kind black_has_won) ⊎ (y ≡ packed kind white_has_won)
  from_choice y leads = go (move_of white_chooses chooses_is_one y leads)
    where
      go : (next : Position) × IsSuccessor witness_game white_chooses next × (y ≡ packed kind next)
          → (y ≡ packed kind black_has_won) ⊎ (y ≡ packed kind white_has_won)
      go (next, move, same) = each (only_two next move)
        where
          each : (next ≡ black_has_won) ⊎ (next ≡ white_has_won) → (y ≡ packed kind black_has_won) ⊎ (y ≡ packed kind white_has_won)
          each (inl is) = inl (same ∙ ap (packed kind) is)
          each (inr is) = inr (same ∙ ap (packed kind) is)

  over : (at : Position) → IsPositionOf witness_game at → at.place ≡ 4 → IsEnded (graph kind) (packed kind at)
  over at is last y leads = let m = move_of at is y leads in play_is_over at last m.0 m.1

  pub black_is_over : IsEnded (graph kind) (packed kind black_has_won)
  black_is_over = over black_has_won black_is_one refl

  pub white_is_over : IsEnded (graph kind) (packed kind white_has_won)
  white_is_over = over white_has_won white_is_one refl

  -- who has the turn, and who is ahead
  role_at : (at : Position) → IsPositionOf witness_game at → (graph kind).mover (packed kind at) ≡ at.state.mover
  role_at at is = role_is kind witness_game sound (packed kind at) at (here at is)

  pub keeper_starts : (graph kind).mover (graph kind).start ≡ Keeper
  keeper_starts = role_at start start_is_one

  pub white_has_the_turn : (graph kind).mover (packed kind white_chooses) ≡ Player First
  white_has_the_turn = role_at white_chooses chooses_is_one

  pub white_leads : (graph kind).ahead (packed kind white_has_won) ≡ Some First
  white_leads = (leader_is kind None witness_game sound (packed kind white_has_won) white_has_won (here white_has_won white_is_one) First).1 (omega arith)

  -- ---- all that play can come to

  pub data Comes : List ℕ → Type 0 where
    to_start : Comes (packed kind start)
    to_choice : Comes (packed kind white_chooses)
    to_loss : Comes (packed kind black_has_won)
    to_win : Comes (packed kind white_has_won)

  goes_on : (x y : List ℕ) → Comes x → (graph kind).Successor x y → Comes y
  goes_on _ y to_start leads = subst Comes (sym (from_start y leads)) to_choice
  goes_on _ y to_choice leads = each (from_choice y leads)
    where
      each : (y ≡ packed kind black_has_won) ⊎ (y ≡ packed kind white_has_won) → Comes y
      each (inl is) = subst Comes (sym is) to_loss
      each (inr is) = subst Comes (sym is) to_win
  goes_on _ y to_loss leads = absurd (black_is_over y leads)
  goes_on _ y to_win leads = absurd (white_is_over y leads)

  pub comes : (x : List ℕ) → IsReachable (graph kind) x → Comes x
  comes _ IsReachable.at_start = to_start
  comes _ (IsReachable.by_move reached leads) = goes_on _ _ (comes _ reached) leads

  abbrev pub all : List (List ℕ)
  all = packed kind start ∷ packed kind white_chooses ∷ packed kind black_has_won ∷ packed kind white_has_won ∷ []

  pub is_among : (x : List ℕ) → Comes x → Contains all x
  is_among _ to_start = contains_by_get all 0 _ refl
  is_among _ to_choice = contains_by_get all 1 _ refl
  is_among _ to_loss = contains_by_get all 2 _ refl
  is_among _ to_win = contains_by_get all 3 _ refl

  -- the keeper has no choice at any of them
  pub no_choice : (x : List ℕ) → Comes x → IsChoice (graph kind) x → ⊥
  no_choice _ to_start choice = choice.apart (from_start choice.one choice.to_one ∙ sym (from_start choice.other choice.to_other))
  no_choice _ to_choice choice = let keeper = choice.keeper in let white = white_has_the_turn in absurd (cc)
  no_choice _ to_loss choice = black_is_over choice.one choice.to_one
  no_choice _ to_win choice = white_is_over choice.one choice.to_one

  -- and no search from them is too wide
  pub no_width : (x : List ℕ) → Comes x → IsWideAt kind witness_game x → ⊥
  no_width _ to_start = narrow_at kind witness_game sound (packed kind start) start (here start start_is_one) start_is_narrow
  no_width _ to_choice = narrow_at kind witness_game sound (packed kind white_chooses) white_chooses (here white_chooses chooses_is_one) choice_is_narrow
  no_width _ to_loss = narrow_at kind witness_game sound (packed kind black_has_won) black_has_won (here black_has_won black_is_one)
      (end_is_narrow black_has_won.state)
  no_width _ to_win = narrow_at kind witness_game sound (packed kind white_has_won) white_has_won (here white_has_won white_is_one)
      (end_is_narrow white_has_won.state)
