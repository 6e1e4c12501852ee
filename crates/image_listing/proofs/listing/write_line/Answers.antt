use Rattle.std.proofs.Common.{rules}
use Rattle.std.proofs.lemmas.Result.{on_err_weaker}
use Rattle.std.specs.Option.{option_copied}
use Rattle.std.specs.Io.KnownBytes.{Appends}
use Rattle.image.specs.BeginningLaws.{beginning_after}
use Rattle.image_listing.specs.Named.{before}
use Rattle.image_listing.proofs.listing.write_line.Goals as goal
use Rattle.image_listing.proofs.listing.write_line.Goals.{in-Some+in_ok-write_labels, in_default}

pub returns-clause-err : goal.returns-clause-err
returns-clause-err g c =
    let labels = before (option_copied c.args.table) c.args.address in
    let written : Appends (g.W.Sink.held c.args.sink.now) (g.W.Sink.held c.match-table.sink) labels = elim c.match-table.branch [
      | in-Some+in_ok-write_labels w ↦ search rules
      | in_default w ↦ search rules
    ] in
    on_err_weaker c.write_all.result
    (λ line. beginning_after _ _ _ labels c.args.line.now written (rw c.as_bytes.ensures.value at line))
    c.write_all.ensures.err
