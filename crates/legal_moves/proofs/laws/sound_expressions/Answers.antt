use Rattle.legal_moves.proofs.SoundLemmas.{sound_here, machine_value}
use Rattle.legal_moves.proofs.laws.sound_expressions.Goals as goal

pub returns-clause-small : goal.returns-clause-small
returns-clause-small c = λ game S e state sound. sound_here game S state e sound

pub returns-clause-fit : goal.returns-clause-fit
returns-clause-fit c = λ game S e state sound. machine_value S.values.items e (sound_here game S state e sound).1
