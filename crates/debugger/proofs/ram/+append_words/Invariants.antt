use Rattle.debugger.proofs.ram.+append_words.Given as goal

abbrev pub decreases-append_words : goal.decreases-append_words
decreases-append_words l = l.count
