-- Every text reads to a game or has a fault.
use Rattle.std.proofs.Common.{◌≡◌, ◌≤◌, List, [], map, length, Option, Some, None, inl, inr, ◌⊎◌, refl}
use Rattle.std.proofs.lemmas.Bool.{cases_Bool, ltb-true, ltb-false}
use Rattle.std.specs.Prelude.{nat_lt}
use Rattle.rbg_text.specs.Token.{Text, Token, Splits}
use Rattle.rbg_text.specs.Lex.{lex}
use Rattle.rbg_text.specs.Syntax as g
use Rattle.rbg_text.specs.Syntax.{Tokens, Section}
use Rattle.rbg_text.specs.Said.{Said, said_of}
use Rattle.rbg_text.specs.lemmas.Parse.{Outcome}
use Rattle.rbg_text.specs.lemmas.ParseSections.{sections}
use Rattle.rbg_text.specs.NestingCount.{nesting}
use Rattle.rbg_text.proofs.Splits.{splits-lex, lex-splits}
use Rattle.rbg_text.proofs.ExpressionsComplete.{state}
use Rattle.rbg_text.proofs.ReadSections.{spelled, unspelled}
use Rattle.rbg_game.specs.Games.{Game}
use Rattle.rbg_read.specs.lemmas.Parts.{Parts, collected, known_of}
use Rattle.rbg_read.specs.lemmas.Flat.{flat_cause}
use Rattle.rbg_read.specs.lemmas.Build.{flat_game}
use Rattle.rbg_read.specs.Reads.{Reads, Fault, too_long, stray_byte, nested, grammar}
use Rattle.rbg_read.specs.declared.fault.GameFault.{GameFault}
use Rattle.rbg_read.specs.declared.fault.GameFault.TheVariants as cause
use Rattle.rbg_read.proofs.Outcome.{lacks, refused, read}

-- the text reads to a game or has a fault
abbrev Answered : Text → Type 0
Answered text = ((game : Game) × Reads text game) ⊎ ((fault : GameFault) × Fault text fault)

-- with the sections that the tokens spell
module _ (text : Text) (ts : Tokens) (all : List Section) (short : length text ≤ 65536) (flat : nesting ts ≤ 64) (splits : Splits text ts)
    (is : ts ≡ g.text all) where
  by_cause : (p : Parts) → collected (map said_of all) ≡ Some p → (c : Option GameFault) → flat_cause (known_of p) p ≡ c → Answered text
  by_cause p h None none =
      inl (flat_game (known_of p) p, read text ts all (map said_of all) short flat splits is refl p (known_of p) (flat_game (known_of p) p) h refl none refl)
  by_cause p h (Some f) some = inr (f, refused text ts all (map said_of all) short flat splits is refl p (known_of p) f h refl some)

  by_parts : (p : Option Parts) → collected (map said_of all) ≡ p → Answered text
  by_parts None h = inr (cause.Section, lacks text ts all (map said_of all) short flat splits is refl h)
  by_parts (Some p) h = by_cause p h (flat_cause (known_of p) p) refl

-- with the tokens that the text splits into
module _ (text : Text) (ts : Tokens) (short : length text ≤ 65536) (splits : Splits text ts) where
  by_grammar : nesting ts ≤ 64 → (o : Outcome (List Said)) → sections (length ts) [] (state ts []) ≡ o → Answered text
  by_grammar flat None h = inr (cause.Syntax, grammar short splits flat (unspelled ts flat h))
  by_grammar flat (Some p) h =
      let found = spelled ts p.0 p.1 h in
      by_parts text ts found.0 short flat splits found.1 (collected (map said_of found.0)) refl

  by_nesting : Answered text
  by_nesting = elim (cases_Bool (nat_lt 64 (nesting ts))) [
    | inl deep ↦ inr (cause.TooLarge, nested short splits (ltb-true 64 (nesting ts) deep))
    | inr flat ↦ by_grammar (ltb-false 64 (nesting ts) flat) (sections (length ts) [] (state ts [])) refl
  ]

by_tokens : (text : Text) → length text ≤ 65536 → (o : Option (List Token)) → lex text ≡ o → Answered text
by_tokens text short None h =
    inr (cause.Syntax, stray_byte short (λ ts splits. let found = lex-splits splits in absurd (cc (found, h))))
by_tokens text short (Some ts) h = by_nesting text ts short (splits-lex text ts h)

pub answered : (text : Text) → ((game : Game) × Reads text game) ⊎ ((fault : GameFault) × Fault text fault)
answered text = elim (cases_Bool (nat_lt 65536 (length text))) [
  | inl long ↦ inr (cause.TooLarge, too_long (ltb-true 65536 (length text) long))
  | inr short ↦ by_tokens text (ltb-false 65536 (length text) short) (lex text) refl
]
