use Rattle.std.proofs.Common.{◌≡◌, ◌++◌, drop, string_bytes}
use Rattle.std.specs.List.{flat_map}
use Rattle.sim_run.specs.Profile.{share_line}
use Rattle.sim_run.proofs.tally.profile_text.Given as goal

-- the text so far and the lines that are left
abbrev pub invariant-loop-share : goal.invariant-loop-share
invariant-loop-share l =
    string_bytes l.text ++ flat_map (share_line l.symbols l.all) (drop l.share-index l.shares)
    ≡ flat_map (share_line l.symbols l.all) l.shares
