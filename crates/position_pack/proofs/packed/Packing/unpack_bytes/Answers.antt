use Rattle.std.proofs.Common.{◌≡◌, ◌+◌, ◌*◌, ◌<◌, ℕ, Option, None, length, get_or, ap, sym, ◌∙◌, subst, refl, arith}
use Rattle.std.specs.Prelude.{MatchOption, All}
use Rattle.rbg_game.specs.declared.position.Position.{Position}
use Rattle.position_pack.specs.lemmas.Bytes.{AreValues}
use Rattle.position_pack.proofs.PackingLemmas.{by_bytes, by_form}
use Rattle.position_pack.proofs.PartLemmas.{Cut, small_others, cut_at, parts_of, pieces_below, values_there, others_are, place_spelled, made}
use Rattle.position_pack.proofs.packed.Packing.unpack_bytes.Goals as goal

refused : (P : Type 0) (Q : Position → Type 0) (r : Option Position) → r ≡ None → P → MatchOption r P Q
refused P Q r is p = rw is p

pub returns-then-bytes-from : goal.returns-then-bytes-from
returns-then-bytes-from c = λ at is.
    let view = ap (λ f. f.shape) c.self.view_is in
    let many = (parts_of c.args.self.now.shape at c.args.bytes.now (by_bytes _ at c.args.bytes.now is)).as_many in
    c.if-bytes-from.true (omega (arith, many, c.from.ensures, c.len.ensures.value, ap (λ s. s.vertices) view, ap (λ s. length s.bounds) view))

pub returns-then-not-all_below : goal.returns-then-not-all_below
returns-then-not-all_below c = λ at is.
    let view = ap (λ f. f.shape) c.self.view_is in
    let cut : Cut c.args.self.now.shape c.args.bytes.now c.split_at.result.0.now c.split_at-2.result.0.now c.split_at-2.result.1.now =
    cut_at c.args.self.now.shape c.args.bytes.now _ c.split_at.result.1.now _ _ c.from-2.result c.len-2.result
    (c.from-2.ensures ∙ ap (λ s. s.vertices) view)
    (c.len-2.ensures.value ∙ ap (λ s.
    length s.bounds) view) c.split_at.ensures.front c.split_at.ensures.back c.split_at-2.ensures.front c.split_at-2.ensures.back in
    let below = subst (λ n. All (λ x. x < n) c.split_at.result.0.now) (sym (ap (λ s. s.pieces) view))
    (pieces_below c.args.self.now.shape c.args.bytes.now _ _ _ cut at (by_bytes _ at c.args.bytes.now is)) in
    let yes_below = c.all_below.ensures.1 below in
    cc (yes_below, c.if-not-all_below.true)

pub returns-in_err-values : goal.returns-in_err-values
returns-in_err-values c = refused _ _ c.from_residual.result c.from_residual.ensures (λ at is.
    let view = ap (λ f. f.shape) c.self.view_is in
    let cut : Cut c.args.self.now.shape c.args.bytes.now c.split_at.result.0.now c.split_at-2.result.0.now c.split_at-2.result.1.now =
    cut_at c.args.self.now.shape c.args.bytes.now _ c.split_at.result.1.now _ _ c.from-2.result c.len-2.result
    (c.from-2.ensures ∙ ap (λ s. s.vertices) view)
    (c.len-2.ensures.value ∙ ap (λ s.
    length s.bounds) view) c.split_at.ensures.front c.split_at.ensures.back c.split_at-2.ensures.front c.split_at-2.ensures.back in
    c.in_err-values.ensures at.state.values.items
    (subst (λ bounds. AreValues c.split_at-2.result.0.now bounds at.state.values.items) (sym (ap (λ s. s.bounds) view))
    (values_there c.args.self.now.shape c.args.bytes.now _ _ _ cut at (by_bytes _ at c.args.bytes.now is))))

pub returns-in_err-mover : goal.returns-in_err-mover
returns-in_err-mover c = refused _ _ c.from_residual-in_err-mover.result c.from_residual-in_err-mover.ensures (λ at is.
    let view = ap (λ f. f.shape) c.self.view_is in
    let cut : Cut c.args.self.now.shape c.args.bytes.now c.split_at.result.0.now c.split_at-2.result.0.now c.split_at-2.result.1.now =
    cut_at c.args.self.now.shape c.args.bytes.now _ c.split_at.result.1.now _ _ c.from-2.result c.len-2.result
    (c.from-2.ensures ∙ ap (λ s. s.vertices) view)
    (c.len-2.ensures.value ∙ ap (λ s.
    length s.bounds) view) c.split_at.ensures.front c.split_at.ensures.back c.split_at-2.ensures.front c.split_at-2.ensures.back in
    let others = others_are c.args.self.now.shape c.args.bytes.now _ _ _ cut at (by_bytes _ at c.args.bytes.now is) in
    let found = (c.role_of.ensures at.state.mover).1 (ap (λ xs. get_or xs 1 0) others) in
    let none = c.in_err-mover.was in
    cc (found, none))

pub returns-then-place-self : goal.returns-then-place-self
returns-then-place-self c = λ at is.
    let view = ap (λ f. f.shape) c.self.view_is in
    let cut : Cut c.args.self.now.shape c.args.bytes.now c.split_at.result.0.now c.split_at-2.result.0.now c.split_at-2.result.1.now =
    cut_at c.args.self.now.shape c.args.bytes.now _ c.split_at.result.1.now _ _ c.from-2.result c.len-2.result
    (c.from-2.ensures ∙ ap (λ s. s.vertices) view)
    (c.len-2.ensures.value ∙ ap (λ s.
    length s.bounds) view) c.split_at.ensures.front c.split_at.ensures.back c.split_at-2.ensures.front c.split_at-2.ensures.back in
    let others = others_are c.args.self.now.shape c.args.bytes.now _ _ _ cut at (by_bytes _ at c.args.bytes.now is) in
    let actions = ap (λ s. s.actions) view in
    let below : at.place < 65536 = omega (arith, is.fits.place_is, actions, c.if-place-self.true, c.from_be_bytes-place.type_inv) in
    omega (arith, is.fits.place_is, actions, c.if-place-self.true, c.from_be_bytes-place.ensures, place_spelled at c.split_at-2.result.1.now others below)

pub returns : goal.returns
returns c =
    let view = ap (λ f. f.shape) c.self.view_is in
    let cut : Cut c.args.self.now.shape c.args.bytes.now c.split_at.result.0.now c.split_at-2.result.0.now c.split_at-2.result.1.now =
    cut_at c.args.self.now.shape c.args.bytes.now _ c.split_at.result.1.now _ _ c.from-2.result c.len-2.result
    (c.from-2.ensures ∙ ap (λ s. s.vertices) view)
    (c.len-2.ensures.value ∙ ap (λ s.
    length s.bounds) view) c.split_at.ensures.front c.split_at.ensures.back c.split_at-2.ensures.front c.split_at-2.ensures.back in
    let small : (i : ℕ) → get_or c.args.bytes.now i 0 < 256 = λ i. omega (arith, c.type_inv.bytes i) in
    let values = subst (λ bounds. AreValues c.split_at-2.result.0.now bounds c.in_ok-values.values.items) (ap (λ s. s.bounds) view) c.in_ok-values.ensures in
    let below = subst (λ n. All (λ x. x < n) c.split_at.result.0.now) (ap (λ s. s.pieces) view) (c.all_below.ensures.0 c.if-not-all_below.false) in
    let was = c.in_ok-mover.was in
    let many : length c.args.bytes.now ≡ c.args.self.now.shape.vertices + 3 * length c.args.self.now.shape.bounds + 4 =
    omega (arith, c.if-bytes-from.false, c.from.ensures, c.len.ensures.value, ap (λ s. s.vertices) view, ap (λ s. length s.bounds) view) in
    by_form _ _ c.args.bytes.now (made c.args.self.now.shape c.args.bytes.now _ _ _ cut _
    (small_others c.args.self.now.shape c.args.bytes.now _ _ _ cut small) many c.vector_of-pieces.ensures values refl
    ((c.role_of.ensures c.in_ok-mover.mover).0 was) c.from_be_bytes-place.ensures below
    (omega (arith, c.if-vertex-self.false, ap (λ s. s.vertices) view)) (omega (arith, c.if-place-self.false, ap (λ s. s.actions) view)))
