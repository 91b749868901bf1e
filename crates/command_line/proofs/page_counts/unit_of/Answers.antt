use Rattle.std.proofs.Common.{arith}
use Rattle.std.proofs.lemmas.Str.Pattern.{strip_suffix_char}
use Rattle.command_line.proofs.Units.{alone_g, alone_k, alone_m}
use Rattle.command_line.proofs.page_counts.unit_of.Goals as goal

pub returns-in-Some-clause-alone : goal.returns-in-Some-clause-alone
returns-in-Some-clause-alone c = λ digits bytes unit numeral.
    alone_k c.args.word.now digits bytes unit numeral c.in-Some.digits.now
    (rw c.in-Some.is at (strip_suffix_char 75 c.args.word.now c.strip_suffix.result c.strip_suffix.ensures.cases (omega arith)))

pub returns-in-Some-strip_suffix-clause-alone : goal.returns-in-Some-strip_suffix-clause-alone
returns-in-Some-strip_suffix-clause-alone c = λ digits bytes unit numeral.
    alone_m c.args.word.now digits bytes unit numeral c.in-Some-strip_suffix.digits.now
    (rw c.in_default.is at (strip_suffix_char 75 c.args.word.now c.strip_suffix.result c.strip_suffix.ensures.cases (omega arith)))
    (rw c.in-Some-strip_suffix.is at
    (strip_suffix_char 77 c.args.word.now c.strip_suffix-in_default.result c.strip_suffix-in_default.ensures.cases (omega arith)))

pub returns-in-Some-strip_suffix-2-clause-alone : goal.returns-in-Some-strip_suffix-2-clause-alone
returns-in-Some-strip_suffix-2-clause-alone c = λ digits bytes unit numeral.
    alone_g c.args.word.now digits bytes unit numeral c.in-Some-strip_suffix-2.digits.now
    (rw c.in_default.is at (strip_suffix_char 75 c.args.word.now c.strip_suffix.result c.strip_suffix.ensures.cases (omega arith)))
    (rw c.in_default-strip_suffix.is at
    (strip_suffix_char 77 c.args.word.now c.strip_suffix-in_default.result c.strip_suffix-in_default.ensures.cases (omega arith)))
    (rw c.in-Some-strip_suffix-2.is at
    (strip_suffix_char 71 c.args.word.now c.strip_suffix-in_default-strip_suffix.result c.strip_suffix-in_default-strip_suffix.ensures.cases (omega arith)))
