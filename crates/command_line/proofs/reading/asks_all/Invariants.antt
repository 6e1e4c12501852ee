use Rattle.std.proofs.Common.{◌≡◌, drop, map}
use Rattle.command_line.specs.CommandLine.{asks_all}
use Rattle.command_line.proofs.reading.asks_all.Given as goal

-- neither stands among the words before this one
abbrev pub invariant-loop-word : goal.invariant-loop-word
invariant-loop-word l =
    asks_all (map (λ word. word.now) (drop l.word-index l.words)) ≡ asks_all (map (λ word. word.now) l.words)
