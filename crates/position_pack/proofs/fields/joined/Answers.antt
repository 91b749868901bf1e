use Rattle.std.proofs.Common.{◌*◌, ◌^◌, ◌<◌, sym, ◌∙◌, subst, arith}
use Rattle.position_pack.proofs.LaneLemmas.{bytes_are, pairs_are, pairs_parts, fours_are, fours_parts, both_are, both_parts, both_low, bits_are}
use Rattle.position_pack.proofs.fields.joined.Goals as goal

pub halved-pairs-requires-clause-parts : goal.halved-pairs-requires-clause-parts
halved-pairs-requires-clause-parts c =
    let w = c.args.width in
    let ps = c.args.pieces.now in
    let bytes = bytes_are w ps c.from_be_bytes-word.result c.requires.width (λ i. omega (arith, c.type_inv.pieces i)) (omega (arith, c.from_be_bytes-word.ensures)) in
    pairs_parts w ps _ c.requires.width bytes

pub halved-fours-requires-clause-parts : goal.halved-fours-requires-clause-parts
halved-fours-requires-clause-parts c =
    let w = c.args.width in
    let ps = c.args.pieces.now in
    let bytes = bytes_are w ps c.from_be_bytes-word.result c.requires.width (λ i. omega (arith, c.type_inv.pieces i)) (omega (arith, c.from_be_bytes-word.ensures)) in
    fours_parts w ps _ c.requires.width (c.halved-pairs.ensures ∙ pairs_are w ps _ c.requires.width bytes)

pub halved-requires-clause-parts : goal.halved-requires-clause-parts
halved-requires-clause-parts c =
    let w = c.args.width in
    let ps = c.args.pieces.now in
    let bytes = bytes_are w ps c.from_be_bytes-word.result c.requires.width (λ i. omega (arith, c.type_inv.pieces i)) (omega (arith, c.from_be_bytes-word.ensures)) in
    let pairs = c.halved-pairs.ensures ∙ pairs_are w ps _ c.requires.width bytes in
    both_parts w ps _ c.requires.width (c.halved-fours.ensures ∙ fours_are w ps _ c.requires.width pairs)

pub returns-clause-low : goal.returns-clause-low
returns-clause-low c =
    let w = c.args.width in
    let ps = c.args.pieces.now in
    let bytes = bytes_are w ps c.from_be_bytes-word.result c.requires.width (λ i. omega (arith, c.type_inv.pieces i)) (omega (arith, c.from_be_bytes-word.ensures)) in
    let pairs = c.halved-pairs.ensures ∙ pairs_are w ps _ c.requires.width bytes in
    let fours = c.halved-fours.ensures ∙ fours_are w ps _ c.requires.width pairs in
    let both = c.halved.ensures ∙ both_are w ps _ c.requires.width fours in
    subst (λ n. n < 2 ^ (8 * w)) (sym both) (both_low w ps)

pub returns-clause-bits : goal.returns-clause-bits
returns-clause-bits c =
    let w = c.args.width in
    let ps = c.args.pieces.now in
    let bytes = bytes_are w ps c.from_be_bytes-word.result c.requires.width (λ i. omega (arith, c.type_inv.pieces i)) (omega (arith, c.from_be_bytes-word.ensures)) in
    let pairs = c.halved-pairs.ensures ∙ pairs_are w ps _ c.requires.width bytes in
    let fours = c.halved-fours.ensures ∙ fours_are w ps _ c.requires.width pairs in
    bits_are w ps _ c.requires.eight (c.halved.ensures ∙ both_are w ps _ c.requires.width fours)
