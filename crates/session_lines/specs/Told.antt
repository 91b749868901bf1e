-- The lines that tell what a command did, or why not.
use Rattle.std.specs.Prelude.{◌≡◌, ℕ, List, [], ◌∷◌, ◌++◌, codes}
use Rattle.std.specs.Fmt.{decimal}
use Rattle.solver.specs.declared.replies.Reply.{Reply}
use Rattle.solver.specs.declared.replies.Reply.TheVariants.{Loaded, Worked, Refused}
use Rattle.solver.specs.declared.fault.SolverFault.{SolverFault}
use Rattle.solver.specs.declared.fault.SolverFault.TheVariants.{KeeperChooses}
use Rattle.solver.specs.Faults.{code_of}
use Rattle.session_lines.specs.Counted.{IsWorkLine}

-- what stands after the code: after S3 the number of the position from which the keeper has a choice
abbrev pub behind_code : SolverFault → List ℕ
behind_code (KeeperChooses number) = 32 ∷ decimal number
behind_code _ = []

-- `refused` and the code
abbrev pub fault_line : SolverFault → List ℕ
fault_line fault = codes "refused " ++ (code_of fault ++ (behind_code fault ++ 10 ∷ []))

-- the line of a reply
abbrev pub IsReplyLine : Reply → List ℕ → Type 0
IsReplyLine Loaded line = line ≡ codes "loaded" ++ 10 ∷ []
IsReplyLine (Worked units counts) line = IsWorkLine units counts line
IsReplyLine (Refused fault) line = line ≡ fault_line fault
