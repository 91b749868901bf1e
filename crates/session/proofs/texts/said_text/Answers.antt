use Rattle.std.proofs.Common.{refl}
use Rattle.session.specs.Commands.{told, told_text, untold}
use Rattle.session.proofs.texts.said_text.Goals as goal

pub returns-in-Ok : goal.returns-in-Ok
returns-in-Ok g c = (told_text c.in-Some.text.now, c.in-Some.ensures.some, refl, told c.in-Some.text.now refl c.in-Ok.ensures.all refl)

pub returns-in-Err : goal.returns-in-Err
returns-in-Err g c = (told_text c.in-Some.text.now, c.in-Some.ensures.some, refl, untold c.in-Some.text.now refl c.in-Err.ensures.part refl)
