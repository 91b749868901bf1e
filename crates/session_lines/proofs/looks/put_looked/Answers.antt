use Rattle.session_lines.proofs.Plain.{in_look_too}
use Rattle.session_lines.proofs.looks.put_looked.Goals as goal

pub returns-in_default : goal.returns-in_default
returns-in_default g c =
    let same = in_look_too c.args.asked c.in_default.not-Work c.in_default.not-Listing in record {
      ready = c.put_answer-in_default.ensures.left.ready;
      done = λ ready. rw same (c.put_answer-in_default.ensures.done ready);
      written = λ ready. rw same (c.put_answer-in_default.ensures.written ready);
      noted = c.put_answer-in_default.ensures.noted;
      pages = c.put_answer-in_default.ensures.pages;
    }
