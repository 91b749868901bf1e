use Rattle.std.proofs.Common.{◌≡◌, ℕ, ◌+◌, ◌*◌, ◌%◌, ◌-◌, ◌^◌, ◌<◌, ◌≤◌, List, ◌++◌, ap, append_assoc, sym, ◌∙◌, subst, arith}
use Rattle.std.proofs.Math.Pow.{pow_mono}
use Rattle.rbg_game.specs.declared.roles.Role.{Role}
use Rattle.rbg_game.specs.declared.roles.Role.TheVariants.{Keeper, Player}
use Rattle.rbg_game.specs.declared.roles.Player.TheVariants.{First, Second}
use Rattle.position_pack.specs.Fields.{role_code}
use Rattle.position_pack.specs.Bits.{width, bits_of}
use Rattle.position_pack.specs.lemmas.Streams.{written}
use Rattle.position_pack.proofs.BitLemmas.{width_least}
use Rattle.position_pack.proofs.ShiftLemmas.{high_low, below_power}
use Rattle.position_pack.proofs.JoinLemmas.{join_whole, three_join, width_two}
use Rattle.position_pack.proofs.fields.put_last_fields.Goals as goal

low_role : (r : Role) → role_code r < 4
low_role Keeper = omega arith
low_role (Player First) = omega arith
low_role (Player Second) = omega arith

-- the width of a number that comes from one of few bits
narrow : (w a b c : ℕ) → w ≡ width a → a ≡ b → b < 2 ^ c → w ≤ c
narrow w a b c is same lt = subst (λ n. n ≤ c) (sym is) (width_least a c (subst (λ n. n < 2 ^ c) (sym same) lt))

regroup : (old a b d : List ℕ) → old ++ ((a ++ b) ++ d) ≡ ((old ++ a) ++ b) ++ d
regroup old a b d = sym (append_assoc old (a ++ b) d) ∙ ap (λ xs. xs ++ d) (sym (append_assoc old a b))

-- the three as one number, and its room
number : (v r x w : ℕ) → v < 256 → r < 4 → w ≤ 16
    → (v * 4 + r) * 2 ^ w % 18446744073709551616 + x % (1 * 2 ^ w % 18446744073709551616) ≡ (v * 4 + r) * 2 ^ w + x % 2 ^ w
number v r x w vertex role few = join_whole (v * 4 + r) 10 w x (omega (arith, vertex, role)) (omega (arith, few)) (omega (arith, few))

low_number : (v r x w : ℕ) → v < 256 → r < 4 → w ≤ 16 → (v * 4 + r) * 2 ^ w + x % 2 ^ w < 2 ^ 26
low_number v r x w vertex role few =
    let small = high_low (v * 4 + r) (x % 2 ^ w) 10 w (omega (arith, vertex, role)) (below_power x w) in
    let most : 2 ^ (10 + w) ≤ 2 ^ 26 = pow_mono {i = 10 + w} {j = 26} (omega (arith, few)) in
    omega (arith, small, most)

pub overflow_cast-last-3 : goal.overflow_cast-last-3
overflow_cast-last-3 c =
    let v = c.from-3.result in
    let r = c.from-4.result in
    let x = c.from-5.result in
    let w = c.width_of-place.result in
    let vertex : v < 256 = omega arith in
    let role : r < 4 = omega (arith, low_role c.args.at.now.state.mover, c.role_byte.ensures, c.from-4.ensures) in
    let few : w ≤ 16 = narrow w c.from-2.result c.args.actions 16 c.width_of-place.ensures.is c.from-2.ensures (omega arith) in
    omega (arith, number v r x w vertex role few, low_number v r x w vertex role few)

pub put-requires-clause-width : goal.put-requires-clause-width
put-requires-clause-width c =
    let few : c.width_of-place.result ≤ 16 = narrow _ c.from-2.result c.args.actions 16 c.width_of-place.ensures.is c.from-2.ensures (omega arith) in
    let short : c.width_of-vertex.result ≤ 8 = narrow _ c.from.result (c.args.vertices - 1) 8 c.width_of-vertex.ensures.is c.from.ensures (omega arith) in
    omega (arith, few, short)

pub put-requires-clause-room : goal.put-requires-clause-room
put-requires-clause-room c =
    let vertex = c.width_of-vertex.ensures.is ∙ ap width c.from.ensures in
    let place = c.width_of-place.ensures.is ∙ ap width c.from-2.ensures in
    omega (arith, vertex, place, width_two, c.requires.room)

pub returns-clause-bits : goal.returns-clause-bits
returns-clause-bits c =
    let v = c.from-3.result in
    let r = c.from-4.result in
    let x = c.from-5.result in
    let w = c.width_of-place.result in
    let a = c.width_of-vertex.result in
    let at = c.args.at.now in
    let old = written c.args.writer.now in
    let vertex : v < 256 = omega arith in
    let role : r < 4 = omega (arith, low_role at.state.mover, c.role_byte.ensures, c.from-4.ensures) in
    let few : w ≤ 16 = narrow w c.from-2.result c.args.actions 16 c.width_of-place.ensures.is c.from-2.ensures (omega arith) in
    let wide : a ≡ width (c.args.vertices - 1) = c.width_of-vertex.ensures.is ∙ ap width c.from.ensures in
    let long : w ≡ width c.args.actions = c.width_of-place.ensures.is ∙ ap width c.from-2.ensures in
    c.put.ensures.bits
    ∙ ap (λ xs. old ++ xs) (three_join a w v r x _ role (number v r x w vertex role few)
    ∙ ap (λ n. (bits_of n v ++ bits_of 2 r) ++ bits_of w x) wide
    ∙ ap (λ n. (bits_of (width (c.args.vertices - 1)) n ++ bits_of 2 r) ++ bits_of w x) c.from-3.ensures
    ∙ ap (λ n. (bits_of (width (c.args.vertices - 1)) at.state.vertex ++ bits_of n r) ++ bits_of w x) (sym width_two)
    ∙ ap (λ n. (bits_of (width (c.args.vertices - 1)) at.state.vertex ++ bits_of (width 2) n) ++ bits_of w x) (c.from-4.ensures ∙ c.role_byte.ensures)
    ∙ ap (λ n. (bits_of (width (c.args.vertices - 1)) at.state.vertex ++ bits_of (width 2) (role_code at.state.mover)) ++ bits_of n x) long
    ∙ ap (λ n. (bits_of (width (c.args.vertices - 1)) at.state.vertex ++ bits_of (width 2) (role_code at.state.mover)) ++ bits_of (width c.args.actions) n) c.from-5.ensures)
    ∙ regroup old (bits_of (width (c.args.vertices - 1)) at.state.vertex) (bits_of (width 2) (role_code at.state.mover)) (bits_of (width c.args.actions) at.place)
