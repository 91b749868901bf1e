use Rattle.retrograde.proofs.laws.right_is_sound.Goals as goal

pub returns : goal.returns
returns g c = λ game stored. (
  (λ sound. (sound.table, sound.each, sound.narrow)),
  (λ (table, each, narrow). record { table = table; each = each; narrow = narrow }),
)
