-- The words of the text of a position.
use Rattle.std.proofs.Common.{◌≡◌, ◌≢◌, ℕ, ◌<◌, ◌≤◌, List, [], ◌∷◌, ◌++◌, map, length, refl, sym, ◌∙◌, arith}
use Rattle.std.specs.Prelude.{All}
use Rattle.std.specs.Fmt.{decimal}
use Rattle.std.proofs.lemmas.List.{length-map}
use Rattle.std.proofs.lemmas.List.Elements.{All-nil, All-cons, All-from_get_or}
use Rattle.rbg_game.specs.Games.{Game, bound_of}
use Rattle.rbg_game.specs.Rules.{count}
use Rattle.rbg_game.specs.Sound.{IsSoundGame}
use Rattle.rbg_game.specs.Names.{HasProperNames}
use Rattle.rbg_game.specs.declared.position.Position.{Position}
use Rattle.position_pack.specs.Texts.{piece_name, vertex_name, role_text, with_commas}
use Rattle.position_pack.specs.Spelled.{IsSpelled}
use Rattle.position_pack.specs.lemmas.Spelled.{AreWords, IsDecimal, IsVertex, ArePieces, AreNumbers}
use Rattle.position_pack.proofs.ShapeLemmas.{small_shape, bound_is}
use Rattle.position_pack.proofs.TellLemmas.{Lacks, lacks, before, digits_lack, role_lacks, vertex_lacks, pieces_space, place_low, nested}

-- each of the five words spells its part of the position
pub record SpellWords (game : Game) (at : Position) (a b c d e : List ℕ) : Type 0 where
  pub role_is : a ≡ role_text game at.state.mover
  pub place_is : IsDecimal (count game.rules) b at.place
  pub vertex_is : IsVertex game c at.state.vertex
  pub pieces_are : ArePieces game d at.state.pieces.items
  pub values_are : AreNumbers game e at.state.values.items

all_lack : (c : ℕ) (w : List ℕ) → Lacks c w → All (λ b. b ≢ c) w
all_lack c [] h = All-nil (λ b. b ≢ c)
all_lack c (x ∷ w) h = All-cons (λ b. b ≢ c) x w h.0 (all_lack c w h.1)

lack_all : (c : ℕ) (w : List ℕ) → All (λ b. b ≢ c) w → Lacks c w
lack_all c w h = lacks c w (λ k lt. h k 0 lt)

-- no bound is over 1,000,000
pub low_bound : (game : Game) → IsSoundGame game → (k : ℕ) → k < length game.variables → bound_of game k ≤ 1000000
low_bound game sound k lt =
    omega (arith, (small_shape game sound).low_bounds k (omega (arith, lt, length-map game.variables (λ v. v.bound))), bound_is game.variables k)

-- decimals up to the bounds have no comma
pub decimal_comma : (game : Game) → IsSoundGame game → (k x : ℕ) → k < length game.variables → x ≤ bound_of game k → Lacks 44 (decimal x)
decimal_comma game sound k x lt le = digits_lack 44 (omega arith) x (omega (arith, le, low_bound game sound k lt))

module _ (game : Game) (sound : IsSoundGame game) (proper : HasProperNames game) (at : Position) (text : List ℕ) where
  -- the text of a position has five words
  pub has_words : IsSpelled game at text → AreWords text (role_text game at.state.mover) (decimal at.place)
      (vertex_name game at.state.vertex) (with_commas (map (piece_name game) at.state.pieces.items)) (with_commas (map decimal at.state.values.items))
  has_words is = record {
    role_lacks = all_lack 32 _ (role_lacks game sound proper at.state.mover);
    place_lacks = all_lack 32 _ (digits_lack 32 (omega arith) at.place (place_low game sound proper at is.position));
    vertex_lacks = all_lack 32 _ (vertex_lacks game sound proper at.state.vertex is.position.state_is.vertex_is);
    pieces_lack = all_lack 32 _ (pieces_space game sound proper at is.position);
    text_is = is.text_is ∙ nested game sound proper _ _ _ _ _;
  }

  -- the words of the text are those
  pub words_told : (a b c d e : List ℕ) → AreWords text a b c d e → IsSpelled game at text → SpellWords game at a b c d e
  words_told a b c d e are is =
      let own = has_words is in
      let role = before 32 a _ _ _ (lack_all 32 a are.role_lacks) (lack_all 32 _ own.role_lacks) (sym are.text_is ∙ own.text_is) in
      let place = before 32 b _ _ _ (lack_all 32 b are.place_lacks) (lack_all 32 _ own.place_lacks) role.1 in
      let vertex = before 32 c _ _ _ (lack_all 32 c are.vertex_lacks) (lack_all 32 _ own.vertex_lacks) place.1 in
      let pieces = before 32 d _ _ _ (lack_all 32 d are.pieces_lack) (lack_all 32 _ own.pieces_lack) vertex.1 in
      let state = is.position.state_is in
      record {
        role_is = role.0;
        place_is = record { allowed = is.position.place_is; text_is = place.0 };
        vertex_is = record { allowed = state.vertex_is; text_is = vertex.0 };
        pieces_are = record { as_many = state.pieces_fit; allowed = λ k lt. state.pieces_are k 0 (omega (arith, lt, state.pieces_fit)); text_is = pieces.0 };
        values_are = record { as_many = state.values_fit; allowed = λ k lt. state.values_are k (omega (arith, lt, state.values_fit)); text_is = pieces.1 };
      }

  -- words that spell the parts of a position are its text
  pub spelled : (a b c d e : List ℕ) → AreWords text a b c d e → SpellWords game at a b c d e → IsSpelled game at text
  spelled a b c d e are parts = record {
    position = record {
      state_is = record {
        pieces_fit = parts.pieces_are.as_many;
        pieces_are = All-from_get_or (λ x. x < length game.pieces) at.state.pieces.items 0
            (λ k lt. parts.pieces_are.allowed k (omega (arith, lt, parts.pieces_are.as_many)));
        values_fit = parts.values_are.as_many;
        values_are = λ k lt. parts.values_are.allowed k (omega (arith, lt, parts.values_are.as_many));
        vertex_is = parts.vertex_is.allowed;
      };
      place_is = parts.place_is.allowed;
    };
    text_is = are.text_is ∙ same ∙ sym (nested game sound proper _ _ _ _ _);
  }
    where
      same : a ++ (32 ∷ (b ++ (32 ∷ (c ++ (32 ∷ (d ++ 32 ∷ e))))))
          ≡ role_text game at.state.mover ++
          (32 ∷ (decimal at.place ++ (32 ∷
          (vertex_name game at.state.vertex ++
          (32 ∷ (with_commas (map (piece_name game) at.state.pieces.items) ++ 32 ∷ with_commas (map decimal at.state.values.items)))))))
      same = rw (parts.role_is, parts.place_is.text_is, parts.vertex_is.text_is, parts.pieces_are.text_is, parts.values_are.text_is) refl
