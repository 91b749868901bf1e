-- The text of the small game reads to it.
use Rattle.std.proofs.Common.{◌≡◌, List, [], ◌∷◌, refl, Some, None, lit≤}
use Rattle.std.specs.Prelude.{codes}
use Rattle.rbg_text.specs.Token.{Text}
use Rattle.rbg_text.specs.Syntax as g
use Rattle.rbg_text.specs.Lex.{skip_from, is_at, sign_among, sign_at, take_token, lex_from, lex}
use Rattle.rbg_read.specs.Means.{Means}
use Rattle.rbg_read.specs.Causes.{first_cause}
use Rattle.rbg_read.specs.Reads.{Reads, reads}
use Rattle.rbg_game.specs.Take.{take}
use Rattle.rbg_read.specs.TakeText.{take_text}
use Rattle.rbg_text.proofs.Splits.{splits-lex}

-- ---- its syntax tree

abbrev literal : Text → g.Term
literal n = g.product_of (g.positive (g.literal n))

abbrev element : g.Base → g.Element
element b = g.once b

abbrev sets : Text → g.Expr → g.Base
sets v e = g.assign (record { target = v; value = e }) []

-- `[$heap=heap-n]`
abbrev takes : Text → g.Concat
takes n = g.single (element (sets (codes "heap") (g.minus (g.sum_of (g.product_of (g.positive (g.variable (codes "heap"))))) (literal n))))

abbrev takes_some : g.Element
takes_some = element (g.group (g.either (g.branch (takes (codes "1"))) (takes (codes "2"))))

abbrev score : Text → Text → g.Element
score v n = element (sets v (g.sum_of (literal n)))

abbrev turn_of_white : g.Concat
turn_of_white =
    g.followed (g.followed (g.followed (g.single (element (g.switch (codes "white")))) takes_some) (score (codes "white") (codes "1")))
    (score (codes "black") (codes "0"))

abbrev round : g.Concat
round =
    g.followed (g.followed (g.followed (g.followed turn_of_white (element (g.switch (codes "black")))) takes_some)
    (score (codes "black") (codes "1"))) (score (codes "white") (codes "0"))

abbrev declaration : Text → Text → g.Declaration
declaration name bound = record { name = name; bound = bound }

abbrev sections : List g.Section
sections =
    g.players (declaration (codes "white") (codes "1")) (declaration (codes "black") (codes "1") ∷ [])
    ∷ g.pieces (codes "e") []
    ∷ g.variables (declaration (codes "heap") (codes "3") ∷ [])
    ∷ g.board (record { name = codes "v"; piece = codes "e"; arrows = [] }) []
    ∷ g.rules (g.branch (g.followed (g.single (score (codes "heap") (codes "3"))) (g.star (g.group (g.branch round)))))
    ∷ []

-- ---- its tokens, its causes and its game

split : lex take_text ≡ Some (g.text sections)
unfolding lex lex_from skip_from is_at sign_among sign_at take_token
split = refl

fine : first_cause sections ≡ None
fine = refl

means : Means sections take
means = record { pieces = refl; variables = refl; labels = refl; vertices = refl; rules = refl }

pub take_read : Reads take_text take
take_read = reads {ts = g.text sections} {all = sections} (lit≤ tt) (lit≤ tt)
    (record { splits = splits-lex take_text (g.text sections) split; spelled = refl }) fine means
