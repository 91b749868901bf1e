-- The definitions of causes at single trees and texts.
use Rattle.std.proofs.Common.{◌≡◌, true, false, List, [], ◌∷◌, refl, Some, None, lit≤}
use Rattle.std.specs.Prelude.{codes}
use Rattle.rbg_text.specs.Token.{Text}
use Rattle.rbg_text.specs.Syntax as g
use Rattle.rbg_read.specs.Causes.{is_large, first_cause}
use Rattle.rbg_text.specs.Lex.{skip_from, is_at, sign_among, sign_at, take_token, lex_from, lex}
use Rattle.rbg_read.specs.Reads.{Fault, first, stray_byte}
use Rattle.rbg_read.specs.declared.fault.GameFault.TheVariants as cause
use Rattle.rbg_game.specs.declared.rules.Comparison.TheVariants as test
use Rattle.rbg_text.proofs.Splits.{splits-lex, lex-splits}

lit : Text → g.Factor
lit n = g.positive (g.literal n)

product : Text → g.Expr
product last = g.sum_of (g.times (g.times (g.times (g.product_of (lit (codes "524288"))) (lit (codes "524288"))) (lit (codes "524288"))) (lit last))

at_limit : is_large [] [] (product (codes "32")) ≡ false
unfolding product lit
at_limit = refl

past_limit : is_large [] [] (product (codes "33")) ≡ true
unfolding product lit
past_limit = refl

sections : g.Sum → List g.Section
sections s =
    g.players (record { name = codes "white"; bound = codes "1" }) (record { name = codes "black"; bound = codes "1" } ∷ [])
    ∷ g.pieces (codes "e") [] ∷ g.board (record { name = codes "v"; piece = codes "e"; arrows = [] }) [] ∷ g.rules s ∷ []

one : g.Base → g.Sum
one b = g.branch (g.single (g.once b))

fine : first_cause (sections (one (g.switch (codes "white")))) ≡ None
unfolding sections one
fine = refl

empty : first_cause [] ≡ Some cause.Section
empty = refl

switch_inside : first_cause (sections (one (g.some_word (one (g.switch (codes "white")))))) ≡ Some cause.SwitchInPattern
unfolding sections one
switch_inside = refl

unknown : first_cause (sections (one (g.assign (record { target = codes "q"; value = g.sum_of (g.product_of (lit (codes "1"))) }) []))) ≡ Some cause.UnknownName
unfolding sections one lit
unknown = refl

large : first_cause (sections (one (g.compare (product (codes "33")) test.Greater (g.sum_of (g.product_of (lit (codes "0"))))))) ≡ Some cause.ExpressionTooLarge
unfolding sections one product lit
large = refl

-- the empty text lacks its sections
pub lacks_sections : Fault [] cause.Section
unfolding lex lex_from skip_from
lacks_sections = first {ts = []} {all = []} (lit≤ tt) (lit≤ tt) (record { splits = splits-lex [] [] refl; spelled = refl }) refl

-- a lone `/` begins no token
divided : Text
divided = codes "#rules = [$heap=heap/2]"

no_token : lex divided ≡ None
unfolding divided lex lex_from skip_from is_at sign_among sign_at take_token
no_token = refl

pub stray : Fault (codes "#rules = [$heap=heap/2]") cause.Syntax
unfolding divided
stray = stray_byte (lit≤ tt) (λ ts split. let found : lex divided ≡ Some ts = lex-splits split in let none = no_token in absurd (cc))
