-- The text reads to the game.
use Rattle.std.proofs.Common.{◌≡◌, List, [], ◌∷◌, refl, Some, None, lit≤}
use Rattle.std.specs.Prelude.{codes}
use Rattle.rbg_text.specs.Token.{Text}
use Rattle.rbg_text.specs.Syntax as g
use Rattle.rbg_text.specs.Lex.{skip_from, is_at, sign_among, sign_at, take_token, lex_from, lex}
use Rattle.rbg_read.specs.Means.{Means}
use Rattle.rbg_read.specs.Causes.{first_cause}
use Rattle.rbg_read.specs.Reads.{Reads, reads}
use Rattle.rbg_text.proofs.Splits.{splits-lex}
use Rattle.witness.specs.Game.{witness_text, witness_game}

-- ---- its syntax tree

-- `[$v=1]`
abbrev wins : Text → g.Concat
wins v =
    g.single (g.once (g.assign (record { target = v; value = g.sum_of (g.product_of (g.positive (g.literal (codes "1")))) }) []))

abbrev choice : g.Element
choice = g.once (g.group (g.either (g.branch (wins (codes "black"))) (wins (codes "white"))))

abbrev declaration : Text → g.Declaration
declaration name = record { name = name; bound = codes "1" }

abbrev sections : List g.Section
sections =
    g.players (declaration (codes "white")) (declaration (codes "black") ∷ [])
    ∷ g.pieces (codes "e") []
    ∷ g.board (record { name = codes "v"; piece = codes "e"; arrows = [] }) []
    ∷ g.rules (g.branch (g.followed (g.followed (g.single (g.once (g.switch (codes "white")))) choice) (g.once g.keeper)))
    ∷ []

-- ---- its tokens, its causes and its game

split : lex witness_text ≡ Some (g.text sections)
unfolding lex lex_from skip_from is_at sign_among sign_at take_token
split = refl

fine : first_cause sections ≡ None
fine = refl

means : Means sections witness_game
means = record { pieces = refl; variables = refl; labels = refl; vertices = refl; rules = refl }

pub witness_read : Reads witness_text witness_game
witness_read =
    reads {ts = g.text sections} {all = sections} (lit≤ tt) (lit≤ tt)
    (record { splits = splits-lex witness_text (g.text sections) split; spelled = refl }) fine means
