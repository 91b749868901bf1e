-- What the bytes of a position say of its mover and its scores.
use Rattle.std.proofs.Common.{◌≡◌, ℕ, suc, ◌+◌, ◌*◌, ◌/◌, ◌%◌, ◌<◌, ◌≤◌, Bool, true, false, cond, List, [], ◌∷◌, ◌++◌, length, refl, ap, ◌∙◌, append_assoc, arith, Option, None, Some}
use Rattle.std.specs.Prelude.{nat_lt, slice_index, map, ◌↔◌}
use Rattle.std.proofs.lemmas.Bool.{ltb-true, ltb-false}
use Rattle.rbg_game.specs.Games.{Game}
use Rattle.rbg_game.specs.Sound.{IsSoundGame}
use Rattle.rbg_game.specs.Positions.{IsPositionOf}
use Rattle.rbg_game.specs.declared.roles.Player.{Player}
use Rattle.rbg_game.specs.declared.roles.Player.TheVariants.{First, Second}
use Rattle.rbg_game.specs.declared.roles.Role.{Role}
use Rattle.rbg_game.specs.declared.roles.Role.TheVariants as role
use Rattle.rbg_game.specs.declared.position.Position.{Position}
use Rattle.position_pack.specs.declared.kind.PackingKind.{PackingKind}
use Rattle.position_pack.specs.declared.kind.PackingKind.TheVariants.{Bytes, Bits}
use Rattle.position_pack.specs.Shape.{shape_of}
use Rattle.position_pack.specs.Fields.{role_code, fields_of}
use Rattle.position_pack.specs.Bits.{field_at}
use Rattle.position_pack.proofs.NumberLemmas.{field_is}
use Rattle.std.proofs.lemmas.List.{length-append}
use Rattle.std.proofs.Math.ListN.{get_or-append}
use Rattle.position_pack.proofs.ShapeLemmas.{fits, small_shape}
use Rattle.position_pack.proofs.PartLemmas.{length-spelled, last_bytes}
use Rattle.position_pack.proofs.ValueBytes.{spelled, spelled-cons}
use Rattle.legal_moves.specs.Moves.{IsAhead, score}
use Rattle.legal_moves.specs.Sources.{IsAt, role_by, role_in, value_in, alone_at, leader, leader_in, more_of}

-- a role comes back from its byte
role_back : (r : Role) → role_by (role_code r) ≡ r
role_back role.Keeper = refl
role_back (role.Player First) = refl
role_back (role.Player Second) = refl

-- a value comes back from its three bytes
value_back : (v : ℕ) → v ≤ 1000000 → v / 65536 % 256 * 65536 + v / 256 % 256 * 256 + v % 256 ≡ v
value_back v small = omega (arith, small)

-- an index into what is after a part
behind : (a b : List ℕ) (n i : ℕ) → length a ≡ n → slice_index (a ++ b) (n + i) ≡ slice_index b i
behind [] b n i e = ap (slice_index b) (omega (arith, e))
behind (x ∷ a) b n i e =
    let next : n + i ≡ suc (length a + i) = omega (arith, e) in
    ap (slice_index (x ∷ (a ++ b))) next ∙ behind a b (length a) i refl

-- the first two values
first_value : (v : ℕ) (vs rest : List ℕ) → v ≤ 1000000 → value_in (spelled (v ∷ vs) ++ rest) 0 ≡ v
first_value v vs rest small = ap (λ bs. value_in (bs ++ rest) 0) (spelled-cons v vs) ∙ value_back v small

second_value : (u v : ℕ) (vs rest : List ℕ) → v ≤ 1000000 → value_in (spelled (u ∷ v ∷ vs) ++ rest) 3 ≡ v
second_value u v vs rest small =
    ap (λ bs. value_in (bs ++ rest) 3) (spelled-cons u (v ∷ vs)) ∙ first_value v vs rest small

value_behind : (a b : List ℕ) (n i : ℕ) → length a ≡ n → value_in (a ++ b) (n + i) ≡ value_in b i
value_behind a b n i e =
    let one : slice_index (a ++ b) (n + i + 1) ≡ slice_index b (i + 1) = ap (slice_index (a ++ b))
    (let h : n + i + 1 ≡ n + (i + 1) = omega arith in h) ∙ behind a b n (i + 1) e in
    let two : slice_index (a ++ b) (n + i + 2) ≡ slice_index b (i + 2) = ap (slice_index (a ++ b))
    (let h : n + i + 2 ≡ n + (i + 2) = omega arith in h) ∙ behind a b n (i + 2) e in
    omega (arith, one, two, behind a b n i e)

-- who has more
leads_first : (a b : ℕ) → (more_of a b ≡ Some First) ↔ (b < a)
leads_first a b = go (nat_lt b a) refl (nat_lt a b) refl
  where
    go : (s : Bool) → nat_lt b a ≡ s → (t : Bool) → nat_lt a b ≡ t → (cond s (Some First) (cond t (Some Second) None) ≡ Some First) ↔ (b < a)
    go true e t f = (λ h. ltb-true b a e, λ h. refl)
    go false e true f = (λ h. absurd (cc), λ h. absurd (omega (arith, h, ltb-false b a e)))
    go false e false f = (λ h. absurd (cc), λ h. absurd (omega (arith, h, ltb-false b a e)))

leads_second : (a b : ℕ) → (more_of a b ≡ Some Second) ↔ (a < b)
leads_second a b = go (nat_lt b a) refl (nat_lt a b) refl
  where
    go : (s : Bool) → nat_lt b a ≡ s → (t : Bool) → nat_lt a b ≡ t → (cond s (Some First) (cond t (Some Second) None) ≡ Some Second) ↔ (a < b)
    go true e t f = (λ h. absurd (cc), λ h. absurd (omega (arith, h, ltb-true b a e)))
    go false e true f = (λ h. ltb-true a b f, λ h. refl)
    go false e false f = (λ h. absurd (cc), λ h. absurd (omega (arith, h, ltb-false a b f)))

-- who alone has this many points
alone_first : (n a b : ℕ) → (alone_at n a b ≡ Some First) ↔ ((n ≤ a) × (b < n))
alone_first n a b = go (nat_lt a n) refl (nat_lt b n) refl
  where
    go : (s : Bool) → nat_lt a n ≡ s → (t : Bool) → nat_lt b n ≡ t
        → (cond s (cond t None (Some Second)) (cond t (Some First) None) ≡ Some First) ↔ ((n ≤ a) × (b < n))
    go true e true f = (λ h. absurd (cc), λ h. absurd (omega (arith, h.0, ltb-true a n e)))
    go true e false f = (λ h. absurd (cc), λ h. absurd (omega (arith, h.0, ltb-true a n e)))
    go false e true f = (λ h. (ltb-false a n e, ltb-true b n f), λ h. refl)
    go false e false f = (λ h. absurd (cc), λ h. absurd (omega (arith, h.1, ltb-false b n f)))

alone_second : (n a b : ℕ) → (alone_at n a b ≡ Some Second) ↔ ((n ≤ b) × (a < n))
alone_second n a b = go (nat_lt a n) refl (nat_lt b n) refl
  where
    go : (s : Bool) → nat_lt a n ≡ s → (t : Bool) → nat_lt b n ≡ t
        → (cond s (cond t None (Some Second)) (cond t (Some First) None) ≡ Some Second) ↔ ((n ≤ b) × (a < n))
    go true e true f = (λ h. absurd (cc), λ h. absurd (omega (arith, h.0, ltb-true b n f)))
    go true e false f = (λ h. (ltb-false b n f, ltb-true a n e), λ h. refl)
    go false e true f = (λ h. absurd (cc), λ h. absurd (omega (arith, h.0, ltb-true b n f)))
    go false e false f = (λ h. absurd (cc), λ h. absurd (omega (arith, h.1, ltb-false a n e)))

low_value : (game : Game) → IsSoundGame game → (at : Position) → IsPositionOf game at → (v : ℕ) → v < length at.state.values.items
    → slice_index at.state.values.items v ≤ 1000000
low_value game sound at is v inside =
    let fit = fits game at is in
    let within : v < length (map (λ b. b.bound) game.variables) = omega (arith, inside, fit.values_fit) in
    omega (arith, fit.values_are v inside, (small_shape game sound).low_bounds v within)

first_of_values : (vs rest : List ℕ) → 0 < length vs → slice_index vs 0 ≤ 1000000 → value_in (spelled vs ++ rest) 0 ≡ slice_index vs 0
first_of_values [] rest some small = absurd (omega (arith, some))
first_of_values (v ∷ vs) rest some small = first_value v vs rest small

second_of_values : (vs rest : List ℕ) → 2 ≤ length vs → slice_index vs 1 ≤ 1000000 → value_in (spelled vs ++ rest) 3 ≡ slice_index vs 1
second_of_values [] rest some small = absurd (omega (arith, some))
second_of_values (u ∷ []) rest some small = absurd (omega (arith, some))
second_of_values (u ∷ v ∷ vs) rest some small = second_value u v vs rest small

pub leads : (goal : Option ℕ) (a b : ℕ) (at : Position) (w : Player) → a ≡ score First at.state → b ≡ score Second at.state
    → (leader goal a b ≡ Some w) ↔ IsAhead goal w at
leads None a b at First e f = let h = leads_first a b in (λ l. omega (arith, h.0 l, e, f), λ l. h.1 (omega (arith, l, e, f)))
leads None a b at Second e f = let h = leads_second a b in (λ l. omega (arith, h.0 l, e, f), λ l. h.1 (omega (arith, l, e, f)))
leads (Some n) a b at First e f =
    let h = alone_first n a b in
    (λ l. let k = h.0 l in (omega (arith, k.0, e), omega (arith, k.1, f)), λ l. h.1 (omega (arith, l.0, e), omega (arith, l.1, f)))
leads (Some n) a b at Second e f =
    let h = alone_second n a b in
    (λ l. let k = h.0 l in (omega (arith, k.0, f), omega (arith, k.1, e)), λ l. h.1 (omega (arith, l.0, f), omega (arith, l.1, e)))

module _ (game : Game) (sound : IsSoundGame game) (x : List ℕ) (at : Position) (here : IsAt Bytes game x at) where
  whole : x ≡ at.state.pieces.items ++ (spelled at.state.values.items ++ last_bytes at)
  whole = here.bytes_are ∙ append_assoc at.state.pieces.items (spelled at.state.values.items) (last_bytes at)

  by_bytes_role : role_in Bytes game x ≡ at.state.mover
  by_bytes_role =
      let a = at.state.pieces.items in
      let b = spelled at.state.values.items in
      let many : length b ≡ 3 * length game.variables = length-spelled at.state.values.items ∙ ap (λ n. 3 * n) here.position_is.state_is.values_fit in
      let place : length game.vertices + 3 * length game.variables + 1 ≡ length game.vertices + (3 * length game.variables + 1) = omega arith in
      let byte : slice_index x (length game.vertices + 3 * length game.variables + 1) ≡ role_code at.state.mover =
      ap (slice_index x) place ∙ ap (λ bs. slice_index bs (length game.vertices + (3 * length game.variables + 1))) whole
      ∙ behind a (b ++ last_bytes at) (length game.vertices) (3 * length game.variables + 1) here.position_is.state_is.pieces_fit
      ∙ behind b (last_bytes at) (3 * length game.variables) 1 many in
      ap role_by byte ∙ role_back at.state.mover

  value_is : (i : ℕ) → value_in x (length game.vertices + i) ≡ value_in (spelled at.state.values.items ++ last_bytes at) i
  value_is i =
      ap (λ bs. value_in bs (length game.vertices + i)) whole
      ∙ value_behind at.state.pieces.items (spelled at.state.values.items ++ last_bytes at) (length game.vertices) i here.position_is.state_is.pieces_fit

  low : (v : ℕ) → v < length at.state.values.items → slice_index at.state.values.items v ≤ 1000000
  low v inside = low_value game sound at here.position_is v inside

  two : 2 ≤ length at.state.values.items
  two = omega (arith, here.position_is.state_is.values_fit, sound.has_players)

  first_is : value_in x (length game.vertices) ≡ score First at.state
  first_is =
      ap (value_in x) (let h : length game.vertices ≡ length game.vertices + 0 = omega arith in h)
      ∙ value_is 0 ∙ first_of_values at.state.values.items (last_bytes at) (omega (arith, two)) (low 0 (omega (arith, two)))

  second_is : value_in x (length game.vertices + 3) ≡ score Second at.state
  second_is = value_is 3 ∙ second_of_values at.state.values.items (last_bytes at) two (low 1 (omega (arith, two)))

  by_bytes_leader : (goal : Option ℕ) (w : Player) → (leader_in Bytes goal game x ≡ Some w) ↔ IsAhead goal w at
  by_bytes_leader goal w = leads goal (value_in x (length game.vertices)) (value_in x (length game.vertices + 3)) at w first_is second_is

module _ (game : Game) (sound : IsSoundGame game) (x : List ℕ) (at : Position) (here : IsAt Bits game x at) where
  abbrev front : List ℕ
  front = at.state.pieces.items ++ at.state.values.items

  abbrev last : List ℕ
  last = at.state.vertex ∷ role_code at.state.mover ∷ at.place ∷ []

  pieces : length at.state.pieces.items ≡ length game.vertices
  pieces = here.position_is.state_is.pieces_fit

  values : length at.state.values.items ≡ length game.variables
  values = here.position_is.state_is.values_fit

  many : length front ≡ length game.vertices + length game.variables
  many = length-append at.state.pieces.items at.state.values.items ∙ omega (arith, pieces, values)

  -- a field of the position is read from its bytes
  field : (k : ℕ) → k < length (fields_of at) → field_at (shape_of game) k x ≡ slice_index (fields_of at) k
  field k lt =
      ap (field_at (shape_of game) k) here.bytes_are ∙ field_is (shape_of game) at k (small_shape game sound) (fits game at here.position_is) lt

  all : length (fields_of at) ≡ length game.vertices + length game.variables + 3
  all = length-append front last ∙ omega (arith, many)

  by_bits_role : role_in Bits game x ≡ at.state.mover
  by_bits_role =
      ap role_by (field (length game.vertices + length game.variables + 1) (omega (arith, all))
      ∙ behind front last (length game.vertices + length game.variables) 1 many)
      ∙ role_back at.state.mover

  score_at : (v : ℕ) → v < 2 → field_at (shape_of game) (length game.vertices + v) x ≡ slice_index at.state.values.items v
  score_at v lt =
      field (length game.vertices + v) (omega (arith, all, lt, sound.has_players))
      ∙ ap (λ xs. slice_index xs (length game.vertices + v)) (append_assoc at.state.pieces.items at.state.values.items last)
      ∙ behind at.state.pieces.items (at.state.values.items ++ last) (length game.vertices) v pieces
      ∙ get_or-append at.state.values.items last 0 v (omega (arith, lt, values, sound.has_players))

  by_bits_leader : (goal : Option ℕ) (w : Player) → (leader_in Bits goal game x ≡ Some w) ↔ IsAhead goal w at
  by_bits_leader goal w =
      leads goal (field_at (shape_of game) (length game.vertices) x) (field_at (shape_of game) (length game.vertices + 1) x) at w
      (ap (λ k. field_at (shape_of game) k x) (let h : length game.vertices ≡ length game.vertices + 0 = omega arith in h)
      ∙ score_at 0 (omega arith)) (score_at 1 (omega arith))

pub role_is : (kind : PackingKind) (game : Game) → IsSoundGame game → (x : List ℕ) (at : Position) → IsAt kind game x at → role_in kind game x ≡ at.state.mover
role_is Bytes game sound x at here = by_bytes_role game sound x at here
role_is Bits game sound x at here = by_bits_role game sound x at here

pub leader_is : (kind : PackingKind) (goal : Option ℕ) (game : Game) → IsSoundGame game → (x : List ℕ) (at : Position) → IsAt kind game x at → (w : Player)
    → (leader_in kind goal game x ≡ Some w) ↔ IsAhead goal w at
leader_is Bytes goal game sound x at here = by_bytes_leader game sound x at here goal
leader_is Bits goal game sound x at here = by_bits_leader game sound x at here goal
