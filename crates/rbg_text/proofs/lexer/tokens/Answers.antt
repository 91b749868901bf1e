use Rattle.rbg_text.proofs.Splits.{whole_split, whole_stray}
use Rattle.rbg_text.proofs.lexer.tokens.Goals as goal

pub returns-in_err-token-clause-stray : goal.returns-in_err-token-clause-stray
returns-in_err-token-clause-stray c = λ _. whole_stray _ _ _ c.loop-found.invariant c.in_err-token.ensures.stray.1

pub returns-clause-split : goal.returns-clause-split
returns-clause-split c = whole_split _ _ _ c.loop-found.invariant (c.in_ok-token.ensures.none cc)
