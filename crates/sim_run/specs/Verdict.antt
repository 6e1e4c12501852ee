-- What a run comes to for whoever called the program: a status and a line.
use Rattle.std.specs.Prelude.{ℕ, ◌==◌, List, [], ◌++◌, codes, decimal, if◌then◌else◌}
use Rattle.machine.specs.declared.end.End.{End}
use Rattle.machine.specs.declared.end.End.TheVariants.{Running, Halted}

-- 0 for a machine that was halted with 0, else 1
abbrev pub status_of : End → ℕ
status_of (Halted number) = if number == 0 then 0 else 1
status_of Running = 1

-- the line for standard error; at status 0 there is none
abbrev pub verdict_line : End → List ℕ
verdict_line (Halted number) = if number == 0 then [] else codes "cherisim: halted with " ++ decimal number
verdict_line Running = codes "cherisim: not halted"
