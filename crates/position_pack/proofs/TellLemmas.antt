-- The text of a position tells the position.
use Rattle.std.proofs.Common.{◌≡◌, ◌≢◌, ℕ, zero, suc, ◌+◌, ◌^◌, ◌<◌, ◌%◌, List, [], ◌∷◌, ◌++◌, map, length, get_or, refl, ap, sym, ◌∙◌, subst, append_assoc, append-nil, arith}
use Rattle.std.specs.Prelude.{AllPairs, slice_get, option_map, unwrap_or, ⊤}
use Rattle.std.specs.List.{flat_map}
use Rattle.std.specs.Fmt.{decimal}
use Rattle.std.specs.Str.Parse.{digits_value}
use Rattle.std.proofs.lemmas.Fmt.{decimal_is_IsNumeral, decimal_by_steps}
use Rattle.std.proofs.lemmas.List.Concat.{flat_map-cons}
use Rattle.std.proofs.lemmas.List.{length-map}
use Rattle.std.proofs.lemmas.Option.{unwrap_or-slice_get}
use Rattle.rbg_game.specs.Games.{Game, Variable, Vertex}
use Rattle.rbg_game.specs.Sound.{IsSoundGame}
use Rattle.rbg_game.specs.Names.{IsPlainName, HasProperNames}
use Rattle.rbg_game.specs.Positions.{IsPositionOf}
use Rattle.rbg_game.specs.declared.roles.Role.{Role}
use Rattle.rbg_game.specs.declared.roles.Role.TheVariants.{Keeper, Player}
use Rattle.rbg_game.specs.declared.roles.Player.TheVariants.{First, Second}
use Rattle.rbg_game.specs.declared.position.Position.{Position}
use Rattle.position_pack.specs.Texts.{variable_name, piece_name, vertex_name, role_text, with_commas, text_of}
use Rattle.position_pack.proofs.OrderLemmas.{same_position}
use Rattle.position_pack.proofs.ShapeLemmas.{small_shape, fits}

-- the byte is not in the text
abbrev pub Lacks : ℕ → List ℕ → Type 0
Lacks c [] = ⊤
Lacks c (x ∷ xs) = (x ≢ c) × Lacks c xs

lacks_append : (c : ℕ) (xs ys : List ℕ) → Lacks c xs → Lacks c ys → Lacks c (xs ++ ys)
lacks_append c [] ys h k = k
lacks_append c (x ∷ xs) ys h k = (h.0, lacks_append c xs ys h.1 k)

-- texts before the first such byte
pub before : (c : ℕ) (a b r s : List ℕ) → Lacks c a → Lacks c b → a ++ (c ∷ r) ≡ b ++ (c ∷ s) → (a ≡ b) × (r ≡ s)
before c [] [] r s ha hb e = (refl, cc)
before c [] (y ∷ b) r s ha hb e = absurd (hb.0 (let same : c ≡ y = cc in sym same))
before c (x ∷ a) [] r s ha hb e = absurd (ha.0 (let same : x ≡ c = cc in same))
before c (x ∷ a) (y ∷ b) r s ha hb e =
    let head : x ≡ y = cc in
    let tail : a ++ (c ∷ r) ≡ b ++ (c ∷ s) = cc in
    let rest = before c a b r s ha.1 hb.1 tail in
    (rw (head, rest.0) refl, rest.1)

-- ---- lists with commas

abbrev pub commas : List (List ℕ) → List ℕ
commas = flat_map (λ y. 44 ∷ y)

abbrev EachLacks : ℕ → List (List ℕ) → Type 0
EachLacks c [] = ⊤
EachLacks c (x ∷ xs) = Lacks c x × EachLacks c xs

commas_tell : (a b : List ℕ) (xs ys : List (List ℕ)) → Lacks 44 a → Lacks 44 b → EachLacks 44 xs → EachLacks 44 ys → length xs ≡ length ys
    → a ++ commas xs ≡ b ++ commas ys → (a ≡ b) × (xs ≡ ys)
commas_tell a b [] [] ha hb hx hy e same = (sym (append-nil a) ∙ same ∙ append-nil b, refl)
commas_tell a b [] (y ∷ ys) ha hb hx hy e same = absurd (omega (arith, e))
commas_tell a b (x ∷ xs) [] ha hb hx hy e same = absurd (omega (arith, e))
commas_tell a b (x ∷ xs) (y ∷ ys) ha hb hx hy e same =
    let long : a ++ (44 ∷ (x ++ commas xs)) ≡ b ++ (44 ∷ (y ++ commas ys)) =
    ap (λ t. a ++ t) (sym (flat_map-cons (λ z. 44 ∷ z) x xs)) ∙ same ∙ ap (λ t. b ++ t) (flat_map-cons (λ z. 44 ∷ z) y ys) in
    let cut = before 44 a b (x ++ commas xs) (y ++ commas ys) ha hb long in
    let rest = commas_tell x y xs ys hx.0 hy.0 hx.1 hy.1 (omega (arith, e)) cut.1 in
    (cut.0, rw (rest.0, rest.1) refl)

with_commas_tell : (xs ys : List (List ℕ)) → EachLacks 44 xs → EachLacks 44 ys → length xs ≡ length ys → with_commas xs ≡ with_commas ys → xs ≡ ys
with_commas_tell [] [] hx hy e same = refl
with_commas_tell [] (y ∷ ys) hx hy e same = absurd (omega (arith, e))
with_commas_tell (x ∷ xs) [] hx hy e same = absurd (omega (arith, e))
with_commas_tell (x ∷ xs) (y ∷ ys) hx hy e same =
    let rest = commas_tell x y xs ys hx.0 hy.0 hx.1 hy.1 (omega (arith, e)) same in
    rw (rest.0, rest.1) refl

commas_lack : (c : ℕ) (xs : List (List ℕ)) → (44 ≢ c) → EachLacks c xs → Lacks c (commas xs)
commas_lack c [] other h = tt
commas_lack c (x ∷ xs) other h =
    subst (Lacks c) (sym (flat_map-cons (λ z. 44 ∷ z) x xs)) (other, lacks_append c x (commas xs) h.0 (commas_lack c xs other h.1))

with_commas_lack : (c : ℕ) (xs : List (List ℕ)) → (44 ≢ c) → EachLacks c xs → Lacks c (with_commas xs)
with_commas_lack c [] other h = tt
with_commas_lack c (x ∷ xs) other h = lacks_append c x (commas xs) h.0 (commas_lack c xs other h.1)

-- ---- numbers

pub digits_lack : (c : ℕ) → c < 48 → (n : ℕ) → n < 2 ^ 64 → Lacks c (decimal n)
digits_lack c low n lt =
    decimal_by_steps (λ m ds. Lacks c ds) (λ m small. ((omega arith), tt))
    (λ m ds big before. lacks_append c ds ((48 + m % 10) ∷ []) before ((omega arith), tt)) n lt

decimal_tells : (m n : ℕ) → m < 2 ^ 64 → n < 2 ^ 64 → decimal m ≡ decimal n → m ≡ n
decimal_tells m n hm hn e = sym (decimal_is_IsNumeral m hm).1 ∙ ap (digits_value 10) e ∙ (decimal_is_IsNumeral n hn).1

-- ---- names

-- the names of a list lack the byte, one after another
each_lacks : (c : ℕ) (names : List (List ℕ)) → ((k : ℕ) → k < length names → Lacks c (get_or names k [])) → EachLacks c names
each_lacks c [] h = tt
each_lacks c (x ∷ names) h = (h 0 (omega arith), each_lacks c names (λ k lt. h (suc k) (omega (arith, lt))))

pub lacks : (c : ℕ) (w : List ℕ) → ((k : ℕ) → k < length w → get_or w k 0 ≢ c) → Lacks c w
lacks c [] h = tt
lacks c (x ∷ w) h = (h 0 (omega arith), lacks c w (λ k lt. h (suc k) (omega (arith, lt))))

no_space : (w : List ℕ) → IsPlainName w → Lacks 32 w
no_space w plain = lacks 32 w (λ k lt. (plain k 0 lt).0)

no_comma : (w : List ℕ) → IsPlainName w → Lacks 44 w
no_comma w plain = lacks 44 w (λ k lt. (plain k 0 lt).1)

no_greater : (w : List ℕ) → IsPlainName w → Lacks 62 w
no_greater w plain = lacks 62 w (λ k lt. (plain k 0 lt).2)

-- in a list without repeats the element tells the place
place_told : (names : List (List ℕ)) → AllPairs ◌≢◌ names → (j k : ℕ) → j < length names → k < length names → get_or names j [] ≡ get_or names k [] → j ≡ k
place_told names differ j k hj hk same =
    let not_below : j < k → ⊥ = λ lt. differ j k [] lt hk same in
    let not_above : k < j → ⊥ = λ gt. differ k j [] gt hj (sym same) in
    omega arith

variable_is : (vs : List Variable) (k : ℕ) → unwrap_or (option_map (λ v. v.name) (slice_get vs k)) [] ≡ get_or (map (λ v. v.name) vs) k []
variable_is [] k = refl
variable_is (v ∷ vs) zero = refl
variable_is (v ∷ vs) (suc k) = variable_is vs k

vertex_is : (vs : List Vertex) (k : ℕ) → unwrap_or (option_map (λ v. v.name) (slice_get vs k)) [] ≡ get_or (map (λ v. v.name) vs) k []
vertex_is [] k = refl
vertex_is (v ∷ vs) zero = refl
vertex_is (v ∷ vs) (suc k) = vertex_is vs k

piece_is : (names : List (List ℕ)) (k : ℕ) → unwrap_or (slice_get names k) [] ≡ get_or names k []
piece_is names k = unwrap_or-slice_get names k []

-- ---- lists of pieces and of values

-- what f makes of each element lacks the byte
map_lacks : (c : ℕ) (f : ℕ → List ℕ) (xs : List ℕ) → ((k : ℕ) → k < length xs → Lacks c (f (get_or xs k 0))) → EachLacks c (map f xs)
map_lacks c f [] h = tt
map_lacks c f (x ∷ xs) h = (h 0 (omega arith), map_lacks c f xs (λ k lt. h (suc k) (omega (arith, lt))))

-- lists with equal images, where f tells the elements apart
map_tells : (f : ℕ → List ℕ) (P : ℕ → Type 0) → ((x y : ℕ) → P x → P y → f x ≡ f y → x ≡ y) → (xs ys : List ℕ)
    → ((k : ℕ) → k < length xs → P (get_or xs k 0)) → ((k : ℕ) → k < length ys → P (get_or ys k 0))
    → map f xs ≡ map f ys → xs ≡ ys
map_tells f P tells [] [] hx hy e = refl
map_tells f P tells [] (y ∷ ys) hx hy e = absurd (cc)
map_tells f P tells (x ∷ xs) [] hx hy e = absurd (cc)
map_tells f P tells (x ∷ xs) (y ∷ ys) hx hy e =
    let head : f x ≡ f y = cc in
    let tail : map f xs ≡ map f ys = cc in
    let one = tells x y (hx 0 (omega arith)) (hy 0 (omega arith)) head in
    let rest = map_tells f P tells xs ys (λ k lt. hx (suc k) (omega (arith, lt))) (λ k lt. hy (suc k) (omega (arith, lt))) tail in
    rw (one, rest) refl

module _ (game : Game) (sound : IsSoundGame game) (proper : HasProperNames game) where
  names : List (List ℕ)
  names = map (λ v. v.name) game.variables

  -- the text of a role
  pub role_lacks : (role : Role) → Lacks 32 (role_text game role)
  role_lacks Keeper = (omega arith, (omega arith, tt))
  role_lacks (Player First) = subst (Lacks 32) (sym (variable_is game.variables 0))
      (no_space _ (proper.variables_plain 0 [] (omega (arith, sound.has_players, length-map game.variables (λ v. v.name)))))
  role_lacks (Player Second) = subst (Lacks 32) (sym (variable_is game.variables 1))
      (no_space _ (proper.variables_plain 1 [] (omega (arith, sound.has_players, length-map game.variables (λ v. v.name)))))

  not_keeper : (k : ℕ) → k < 2 → variable_name game k ≡ 62 ∷ 62 ∷ [] → ⊥
  not_keeper k lt e =
      let plain = no_greater _ (proper.variables_plain k [] (omega (arith, lt, sound.has_players, length-map game.variables (λ v. v.name)))) in
      let bad : Lacks 62 (62 ∷ 62 ∷ []) = subst (Lacks 62) (sym (variable_is game.variables k) ∙ e) plain in
      bad.0 refl

  not_same : variable_name game 0 ≡ variable_name game 1 → ⊥
  not_same e = proper.variables_differ 0 1 [] (omega arith) (omega (arith, sound.has_players, length-map game.variables (λ v. v.name)))
      (sym (variable_is game.variables 0) ∙ e ∙ variable_is game.variables 1)

  role_told : (r s : Role) → role_text game r ≡ role_text game s → r ≡ s
  role_told Keeper Keeper e = refl
  role_told (Player First) (Player First) e = refl
  role_told (Player Second) (Player Second) e = refl
  role_told Keeper (Player First) e = absurd (not_keeper 0 (omega arith) (sym e))
  role_told Keeper (Player Second) e = absurd (not_keeper 1 (omega arith) (sym e))
  role_told (Player First) Keeper e = absurd (not_keeper 0 (omega arith) e)
  role_told (Player Second) Keeper e = absurd (not_keeper 1 (omega arith) e)
  role_told (Player First) (Player Second) e = absurd (not_same e)
  role_told (Player Second) (Player First) e = absurd (not_same (sym e))

  pub vertex_lacks : (k : ℕ) → k < length game.vertices → Lacks 32 (vertex_name game k)
  vertex_lacks k lt = subst (Lacks 32) (sym (vertex_is game.vertices k))
      (no_space _ (proper.vertices_plain k [] (omega (arith, lt, length-map game.vertices (λ v. v.name)))))

  vertex_told : (j k : ℕ) → j < length game.vertices → k < length game.vertices → vertex_name game j ≡ vertex_name game k → j ≡ k
  vertex_told j k hj hk e =
      place_told (map (λ v. v.name) game.vertices) proper.vertices_differ j k (omega (arith, hj, length-map game.vertices (λ v. v.name)))
      (omega (arith, hk, length-map game.vertices (λ v. v.name)))
      (sym (vertex_is game.vertices j) ∙ e ∙ vertex_is game.vertices k)

  piece_told : (j k : ℕ) → j < length game.pieces → k < length game.pieces → piece_name game j ≡ piece_name game k → j ≡ k
  piece_told j k hj hk e = place_told game.pieces proper.pieces_differ j k hj hk (sym (piece_is game.pieces j) ∙ e ∙ piece_is game.pieces k)

  piece_space : (k : ℕ) → k < length game.pieces → Lacks 32 (piece_name game k)
  piece_space k lt = subst (Lacks 32) (sym (piece_is game.pieces k)) (no_space _ (proper.pieces_plain k [] lt))

  pub piece_comma : (k : ℕ) → k < length game.pieces → Lacks 44 (piece_name game k)
  piece_comma k lt = subst (Lacks 44) (sym (piece_is game.pieces k)) (no_comma _ (proper.pieces_plain k [] lt))

  -- the text from its parts, one after another
  pub nested : (a b c d e : List ℕ) → a ++ 32 ∷ b ++ 32 ∷ c ++ 32 ∷ d ++ 32 ∷ e ≡ a ++ (32 ∷ (b ++ (32 ∷ (c ++ (32 ∷ (d ++ (32 ∷ e)))))))
  nested a b c d e = simp append_assoc

  -- the facts of a position that its text rests on
  pub place_low : (at : Position) → IsPositionOf game at → at.place < 2 ^ 64
  place_low at is = omega (arith, is.place_is, (small_shape game sound).few_actions)

  values_low : (at : Position) → IsPositionOf game at → (k : ℕ) → k < length at.state.values.items → get_or at.state.values.items k 0 < 2 ^ 64
  values_low at is k lt =
      let f = fits game at is in
      omega (arith, f.values_are k lt, (small_shape game sound).low_bounds k (omega (arith, lt, f.values_fit)))

  pieces_low : (at : Position) → IsPositionOf game at → (k : ℕ) → k < length at.state.pieces.items → get_or at.state.pieces.items k 0 < length game.pieces
  pieces_low at is k lt = is.state_is.pieces_are k 0 lt

  pub pieces_space : (at : Position) → IsPositionOf game at → Lacks 32 (with_commas (map (piece_name game) at.state.pieces.items))
  pieces_space at is = with_commas_lack 32 _ (omega arith)
      (map_lacks 32 (piece_name game) at.state.pieces.items (λ k lt. piece_space _ (pieces_low at is k lt)))

  pub told : (x y : Position) → IsPositionOf game x → IsPositionOf game y → text_of game x ≡ text_of game y → x ≡ y
  told x y hx hy same =
      let apart = sym (nested _ _ _ _ _) ∙ same ∙ nested _ _ _ _ _ in
      let role = before 32 _ _ _ _ (role_lacks x.state.mover) (role_lacks y.state.mover) apart in
      let place = before 32 _ _ _ _ (digits_lack 32 (omega arith) x.place (place_low x hx)) (digits_lack 32 (omega arith) y.place (place_low y hy)) role.1 in
      let vertex = before 32 _ _ _ _ (vertex_lacks x.state.vertex hx.state_is.vertex_is) (vertex_lacks y.state.vertex hy.state_is.vertex_is) place.1 in
      let pieces = before 32 _ _ _ _ (pieces_space x hx) (pieces_space y hy) vertex.1 in
      let many_pieces = hx.state_is.pieces_fit ∙ sym hy.state_is.pieces_fit in
      let many_values = hx.state_is.values_fit ∙ sym hy.state_is.values_fit in
      let piece_names = with_commas_tell _ _
      (map_lacks 44 (piece_name game) x.state.pieces.items (λ k lt. piece_comma _ (pieces_low x hx k lt)))
      (map_lacks 44 (piece_name game) y.state.pieces.items (λ k lt. piece_comma _ (pieces_low y hy k lt)))
      (length-map x.state.pieces.items (piece_name game) ∙ many_pieces ∙ sym (length-map y.state.pieces.items (piece_name game))) pieces.0 in
      let numbers = with_commas_tell _ _
      (map_lacks 44 decimal x.state.values.items (λ k lt. digits_lack 44 (omega arith) _ (values_low x hx k lt)))
      (map_lacks 44 decimal y.state.values.items (λ k lt. digits_lack 44 (omega arith) _ (values_low y hy k lt)))
      (length-map x.state.values.items decimal ∙ many_values ∙ sym (length-map y.state.values.items decimal)) pieces.1 in
      same_position x y (role_told _ _ role.0)
      (map_tells (piece_name game) (λ k. k < length game.pieces) piece_told x.state.pieces.items y.state.pieces.items (pieces_low x hx)
      (pieces_low y hy) piece_names)
      (map_tells decimal (λ n. n < 2 ^ 64) decimal_tells x.state.values.items y.state.values.items (values_low x hx) (values_low y hy) numbers)
      (vertex_told _ _ hx.state_is.vertex_is hy.state_is.vertex_is vertex.0) (decimal_tells _ _ (place_low x hx) (place_low y hy) place.0)
