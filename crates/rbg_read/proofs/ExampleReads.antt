-- The text with every construct of the language reads to its game.
use Rattle.std.proofs.Common.{◌≡◌, List, [], ◌∷◌, refl, Some, None, lit≤}
use Rattle.std.specs.Prelude.{fold, codes}
use Rattle.rbg_text.specs.Token.{Text}
use Rattle.rbg_text.specs.Syntax as g
use Rattle.rbg_text.specs.Lex.{skip_from, is_at, sign_among, sign_at, take_token, lex_from, lex}
use Rattle.rbg_game.specs.declared.rules.Comparison.{Comparison}
use Rattle.rbg_game.specs.declared.rules.Comparison.TheVariants as test
use Rattle.rbg_read.specs.Means.{Means}
use Rattle.rbg_read.specs.Causes.{first_cause}
use Rattle.rbg_read.specs.Reads.{Reads, reads}
use Rattle.rbg_read.specs.Example.{example_text, example_game}
use Rattle.rbg_text.proofs.Splits.{splits-lex}

-- ---- its syntax tree

abbrev literal : Text → g.Atom
literal n = g.literal n

abbrev coins : g.Atom
coins = g.variable (codes "coins")

abbrev steps : g.Atom
steps = g.variable (codes "steps")

abbrev term : g.Atom → g.Term
term a = g.product_of (g.positive a)

abbrev alone : g.Atom → g.Expr
alone a = g.sum_of (term a)

abbrev sets : Text → g.Expr → g.Assignment
sets v e = record { target = v; value = e }

-- `9-steps*(coins-1)`
abbrev score : g.Expr
score =
    g.minus (alone (literal (codes "9"))) (g.times (term steps) (g.positive (g.parenthesized (g.minus (alone coins) (term (literal (codes "1")))))))

abbrev elements : g.Element → List g.Element → g.Concat
elements first more = fold g.followed (g.single first) more

abbrev shift : Text → g.Element
shift label = g.once (g.shift label)

abbrev compares : g.Expr → Comparison → g.Expr → g.Element
compares left test right = g.once (g.compare left test right)

abbrev white_moves : g.Concat
white_moves =
    elements (g.once (g.switch (codes "white"))) (
    g.once (g.on (codes "w" ∷ []))
    ∷ g.star (g.group (g.either (g.branch (elements (shift (codes "r")) [])) (elements (shift (codes "l")) [])))
    ∷ g.once (g.on (codes "e" ∷ codes "b" ∷ []))
    ∷ g.once (g.on [])
    ∷ g.once (g.off (codes "w"))
    ∷ g.once (g.some_word (g.branch (elements (g.star (g.shift (codes "l"))) (g.once (g.on (codes "w" ∷ [])) ∷ []))))
    ∷ g.once (g.no_word (g.branch (elements (shift (codes "r")) (shift (codes "l") ∷ []))))
    ∷ g.once (g.assign (sets (codes "coins") (g.plus (alone coins) (term (literal (codes "1"))))) (sets (codes "white") score ∷ []))
    ∷ compares (alone coins) test.LessEqual (g.sum_of (g.product_of (g.negative steps)))
    ∷ g.star (g.compare (alone coins) test.NotEqual (alone (literal (codes "0"))))
    ∷ [])

abbrev black_moves : g.Concat
black_moves =
    elements (compares (alone coins) test.Equal (alone steps)) (
    compares (alone coins) test.Less (alone steps)
    ∷ compares (alone coins) test.Greater (alone steps)
    ∷ compares (alone coins) test.GreaterEqual (alone steps)
    ∷ g.once (g.switch (codes "black"))
    ∷ g.star (g.assign (sets (codes "steps") (alone (literal (codes "2")))) [])
    ∷ g.once g.keeper
    ∷ [])

abbrev declaration : Text → Text → g.Declaration
declaration name bound = record { name = name; bound = bound }

abbrev arrow : Text → Text → g.WrittenArrow
arrow label to = record { label = label; to = to }

abbrev vertex : Text → Text → List g.WrittenArrow → g.WrittenVertex
vertex name piece arrows = record { name = name; piece = piece; arrows = arrows }

abbrev sections : List g.Section
sections =
    g.players (declaration (codes "white") (codes "9")) (declaration (codes "black") (codes "09") ∷ [])
    ∷ g.pieces (codes "e") (codes "w" ∷ codes "b" ∷ [])
    ∷ g.variables (declaration (codes "coins") (codes "2") ∷ declaration (codes "steps") (codes "3") ∷ [])
    ∷ g.board (vertex (codes "p") (codes "w") (arrow (codes "r") (codes "q") ∷ [])) (
    g.at_once (vertex (codes "q") (codes "e") (arrow (codes "r") (codes "s") ∷ arrow (codes "l") (codes "p") ∷ []))
    ∷ g.after_comma (vertex (codes "s") (codes "b") []) ∷ [])
    ∷ g.rules (g.either (g.branch white_moves) black_moves)
    ∷ []

-- ---- its tokens, its causes and its game

split : lex example_text ≡ Some (g.text sections)
unfolding lex lex_from skip_from is_at sign_among sign_at take_token
split = refl

fine : first_cause sections ≡ None
fine = refl

means : Means sections example_game
means = record { pieces = refl; variables = refl; labels = refl; vertices = refl; rules = refl }

pub example_read : Reads example_text example_game
example_read =
    reads {ts = g.text sections} {all = sections} (lit≤ tt) (lit≤ tt)
    (record { splits = splits-lex example_text (g.text sections) split; spelled = refl }) fine means
