use Rattle.rbg_read.proofs.resolve.Stack.perform.Goals as goal

pub returns-in-Negate : goal.returns-in-Negate
returns-in-Negate c = rw c.in-Negate.is c.negate.ensures

pub returns-in-Add : goal.returns-in-Add
returns-in-Add c = rw c.in-Add.is c.add.ensures

pub returns-in-Subtract : goal.returns-in-Subtract
returns-in-Subtract c = rw c.in-Subtract.is c.subtract.ensures

pub returns-in-Multiply : goal.returns-in-Multiply
returns-in-Multiply c = rw c.in-Multiply.is c.multiply.ensures

pub returns-in-On : goal.returns-in-On
returns-in-On c = rw c.in-On.is c.begin_set.ensures

pub returns-in-Compare : goal.returns-in-Compare
returns-in-Compare c = rw c.in-Compare.is c.compare.ensures

pub returns-in-SomeWord : goal.returns-in-SomeWord
returns-in-SomeWord c = rw c.in-SomeWord.is c.pattern.ensures

pub returns-in-NoWord : goal.returns-in-NoWord
returns-in-NoWord c = rw c.in-NoWord.is c.pattern-in-NoWord.ensures

pub returns-in-Join : goal.returns-in-Join
returns-in-Join c = rw c.in-Join.is c.join.ensures

pub returns-in-Either : goal.returns-in-Either
returns-in-Either c = rw c.in-Either.is c.either.ensures

pub returns-in-Star : goal.returns-in-Star
returns-in-Star c = rw c.in-Star.is c.star.ensures

pub returns-in-Among : goal.returns-in-Among
returns-in-Among c = rw c.in-Among.is
