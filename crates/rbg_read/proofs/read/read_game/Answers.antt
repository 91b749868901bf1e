use Rattle.std.proofs.Common.{◌≡◌, ◌≤◌, map, length, sym, ap, ◌∙◌, subst, arith}
use Rattle.rbg_text.specs.View.{token_view}
use Rattle.rbg_text.specs.Said.{section_view}
use Rattle.rbg_text.specs.NestingCount.{nesting}
use Rattle.std.specs.Prelude.{option_map}
use Rattle.rbg_game.specs.Meaning.{game_of}
use Rattle.rbg_read.specs.lemmas.Parts.{parts_view, known_view}
use Rattle.rbg_read.specs.Reads.{too_long, stray_byte, nested, grammar}
use Rattle.rbg_read.proofs.Outcome.{passed_on, kept_on, lacks, refused, read}
use Rattle.rbg_read.proofs.SoundGames.{read_sound}
use Rattle.rbg_read.proofs.ShallowRules.{read_shallow}
use Rattle.rbg_read.proofs.OneGame.{no_fault, refused_only}
use Rattle.rbg_read.proofs.read.read_game.Goals as goal

pub returns-then-text-gt-MAX_TEXT_BYTES-clause-fault : goal.returns-then-text-gt-MAX_TEXT_BYTES-clause-fault
returns-then-text-gt-MAX_TEXT_BYTES-clause-fault c = λ _. too_long c.if-text-gt-MAX_TEXT_BYTES.true

pub returns-in_err-tokens-clause-fault : goal.returns-in_err-tokens-clause-fault
returns-in_err-tokens-clause-fault c =
    passed_on c.args.text.now c.from_residual.result c.in_err-tokens.field-0.0 c.from_residual.ensures
    (λ is. stray_byte c.if-text-gt-MAX_TEXT_BYTES.false (c.in_err-tokens.ensures.stray (ap Rattle.std.proofs.Common.Err is)))

pub returns-then-nesting-gt-MAX_NESTING-clause-fault : goal.returns-then-nesting-gt-MAX_NESTING-clause-fault
returns-then-nesting-gt-MAX_NESTING-clause-fault c = λ _.
    let deep : c.nesting.result ≡ nesting (map token_view c.in_ok-tokens.tokens.items) = c.nesting.ensures
    ∙ ap (λ ts. nesting (map token_view ts)) c.as_slice.ensures.value in
    nested c.if-text-gt-MAX_TEXT_BYTES.false c.in_ok-tokens.ensures.split (omega arith)

pub returns-in_err-sections-clause-fault : goal.returns-in_err-sections-clause-fault
returns-in_err-sections-clause-fault c =
    let tokens = c.in_ok-tokens.tokens.items in
    let deep : c.nesting.result ≡ nesting (map token_view tokens) = c.nesting.ensures ∙ ap (λ ts. nesting (map token_view ts)) c.as_slice.ensures.value in
    let flat : nesting (map token_view tokens) ≤ 64 = omega arith in
    let same : map token_view c.as_slice-2.result.now ≡ map token_view tokens = ap (map token_view) c.as_slice-2.ensures.value in
    passed_on c.args.text.now c.from_residual-in_err-sections.result c.in_err-sections.field-0.0 c.from_residual-in_err-sections.ensures
    (λ is.
    grammar c.if-text-gt-MAX_TEXT_BYTES.false c.in_ok-tokens.ensures.split flat
    (λ all spelled. c.in_err-sections.ensures.none (ap Rattle.std.proofs.Common.Err is) (subst (λ ts. nesting ts ≤ 64) (sym same) flat) all (same ∙ spelled)))

pub returns-in_default-clause-fault : goal.returns-in_default-clause-fault
returns-in_default-clause-fault c = λ _.
    let tokens = c.in_ok-tokens.tokens.items in
    let deep : c.nesting.result ≡ nesting (map token_view tokens) = c.nesting.ensures ∙ ap (λ ts. nesting (map token_view ts)) c.as_slice.ensures.value in
    let flat : nesting (map token_view tokens) ≤ 64 = omega arith in
    let same : map token_view c.as_slice-2.result.now ≡ map token_view tokens = ap (map token_view) c.as_slice-2.ensures.value in
    let sections = c.in_ok-sections.ensures.found in
    lacks c.args.text.now (map token_view tokens) sections.0 (map section_view c.in_ok-sections.sections.items)
    c.if-text-gt-MAX_TEXT_BYTES.false flat c.in_ok-tokens.ensures.split (sym same ∙ sections.1) sections.2
    (sym c.in_ok-parts.ensures ∙ ap (option_map parts_view) c.in_default.is)

pub returns-in_err-check-clause-fault : goal.returns-in_err-check-clause-fault
returns-in_err-check-clause-fault c =
    let tokens = c.in_ok-tokens.tokens.items in
    let deep : c.nesting.result ≡ nesting (map token_view tokens) = c.nesting.ensures ∙ ap (λ ts. nesting (map token_view ts)) c.as_slice.ensures.value in
    let flat : nesting (map token_view tokens) ≤ 64 = omega arith in
    let same : map token_view c.as_slice-2.result.now ≡ map token_view tokens = ap (map token_view) c.as_slice-2.ensures.value in
    let sections = c.in_ok-sections.ensures.found in
    kept_on c.args.text.now c.from_residual-in_err-check.result c.in_err-check.field-0.0 c.from_residual-in_err-check.ensures
    (λ no.
    refused c.args.text.now (map token_view tokens) sections.0 (map section_view c.in_ok-sections.sections.items)
    c.if-text-gt-MAX_TEXT_BYTES.false flat c.in_ok-tokens.ensures.split (sym same ∙ sections.1) sections.2
    (parts_view c.in-Some.parts) (known_view c.in_ok-names.names) c.in_err-check.field-0.0
    (sym c.in_ok-parts.ensures ∙ ap (option_map parts_view) c.in-Some.is) c.in_ok-names.ensures (c.in_err-check.ensures no))

pub returns-clause-reads : goal.returns-clause-reads
returns-clause-reads c =
    let tokens = c.in_ok-tokens.tokens.items in
    let deep : c.nesting.result ≡ nesting (map token_view tokens) = c.nesting.ensures ∙ ap (λ ts. nesting (map token_view ts)) c.as_slice.ensures.value in
    let flat : nesting (map token_view tokens) ≤ 64 = omega arith in
    let same : map token_view c.as_slice-2.result.now ≡ map token_view tokens = ap (map token_view) c.as_slice-2.ensures.value in
    let sections = c.in_ok-sections.ensures.found in
    read c.args.text.now (map token_view tokens) sections.0 (map section_view c.in_ok-sections.sections.items)
    c.if-text-gt-MAX_TEXT_BYTES.false flat c.in_ok-tokens.ensures.split (sym same ∙ sections.1) sections.2
    (parts_view c.in-Some.parts) (known_view c.in_ok-names.names) (game_of c.in_ok-build.field-0)
    (sym c.in_ok-parts.ensures ∙ ap (option_map parts_view) c.in-Some.is) c.in_ok-names.ensures c.in_ok-check.ensures c.in_ok-build.ensures.means

pub returns-then-text-gt-MAX_TEXT_BYTES-clause-only : goal.returns-then-text-gt-MAX_TEXT_BYTES-clause-only
returns-then-text-gt-MAX_TEXT_BYTES-clause-only c = λ game is. absurd
    (no_fault c.args.text.now game _ is (returns-then-text-gt-MAX_TEXT_BYTES-clause-fault c (λ e. absurd (cc))))

pub returns-then-nesting-gt-MAX_NESTING-clause-only : goal.returns-then-nesting-gt-MAX_NESTING-clause-only
returns-then-nesting-gt-MAX_NESTING-clause-only c = λ game is. absurd
    (no_fault c.args.text.now game _ is (returns-then-nesting-gt-MAX_NESTING-clause-fault c (λ e. absurd (cc))))

pub returns-in_default-clause-only : goal.returns-in_default-clause-only
returns-in_default-clause-only c = λ game is. absurd (no_fault c.args.text.now game _ is (returns-in_default-clause-fault c (λ e. absurd (cc))))

pub returns-in_err-sections-clause-only : goal.returns-in_err-sections-clause-only
returns-in_err-sections-clause-only c = λ game is. refused_only c.args.text.now c.from_residual-in_err-sections.result
    (returns-in_err-sections-clause-fault c) game is

pub returns-in_err-check-clause-only : goal.returns-in_err-check-clause-only
returns-in_err-check-clause-only c = λ game is. refused_only c.args.text.now c.from_residual-in_err-check.result (returns-in_err-check-clause-fault c) game is

pub returns-clause-sound : goal.returns-clause-sound
returns-clause-sound c = read_sound c.args.text.now (game_of c.in_ok-build.field-0) (returns-clause-reads c)

pub returns-clause-shallow : goal.returns-clause-shallow
returns-clause-shallow c =
    omega (arith, c.in_ok-build.ensures.shallow, read_shallow c.args.text.now (game_of c.in_ok-build.field-0) (returns-clause-reads c))

pub returns-then-text-gt-MAX_TEXT_BYTES-clause-reads : goal.returns-then-text-gt-MAX_TEXT_BYTES-clause-reads
returns-then-text-gt-MAX_TEXT_BYTES-clause-reads c = tt

pub returns-then-text-gt-MAX_TEXT_BYTES-clause-sound : goal.returns-then-text-gt-MAX_TEXT_BYTES-clause-sound
returns-then-text-gt-MAX_TEXT_BYTES-clause-sound c = tt

pub returns-then-text-gt-MAX_TEXT_BYTES-clause-shallow : goal.returns-then-text-gt-MAX_TEXT_BYTES-clause-shallow
returns-then-text-gt-MAX_TEXT_BYTES-clause-shallow c = tt

pub returns-then-nesting-gt-MAX_NESTING-clause-reads : goal.returns-then-nesting-gt-MAX_NESTING-clause-reads
returns-then-nesting-gt-MAX_NESTING-clause-reads c = tt

pub returns-then-nesting-gt-MAX_NESTING-clause-sound : goal.returns-then-nesting-gt-MAX_NESTING-clause-sound
returns-then-nesting-gt-MAX_NESTING-clause-sound c = tt

pub returns-then-nesting-gt-MAX_NESTING-clause-shallow : goal.returns-then-nesting-gt-MAX_NESTING-clause-shallow
returns-then-nesting-gt-MAX_NESTING-clause-shallow c = tt

pub returns-in_default-clause-reads : goal.returns-in_default-clause-reads
returns-in_default-clause-reads c = tt

pub returns-in_default-clause-sound : goal.returns-in_default-clause-sound
returns-in_default-clause-sound c = tt

pub returns-in_default-clause-shallow : goal.returns-in_default-clause-shallow
returns-in_default-clause-shallow c = tt

pub returns-clause-only : goal.returns-clause-only
returns-clause-only c = λ game is. tt
