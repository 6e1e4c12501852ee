use Rattle.std.proofs.Common.{◌≡◌, ◌++◌, drop}
use Rattle.std.specs.List.{flat_map}
use Rattle.std.specs.Prelude.{string_bytes}
use Rattle.reached.specs.Order.{seen_members}
use Rattle.policy_audit.specs.Text.{finding_told}
use Rattle.policy_audit.proofs.findings.append_findings.Given as goal

-- what is written and the lines of the findings that are left make all lines
abbrev pub invariant-loop-finding : goal.invariant-loop-finding
invariant-loop-finding g l =
    string_bytes l.text
    ++ flat_map (finding_told l.report.json l.report.symbols.now (seen_members g.C.CapRep.value l.members) l.report.lines.now l.at.step
    l.at.pc) (drop l.finding-index l.found)
    ≡ string_bytes l.fn.text
    ++ flat_map (finding_told l.report.json l.report.symbols.now (seen_members g.C.CapRep.value l.members) l.report.lines.now l.at.step
    l.at.pc) l.found
