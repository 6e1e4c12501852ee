use Rattle.std.proofs.Common.{◌≡◌, ◌∙◌, ◌<◌, ◌≤◌, ◌+◌, length, take, subst, arith}
use Rattle.commands.specs.Files.{bytes_of}
use Rattle.commands.proofs.Policies.{all-read, some-weaker, taken-short}
use Rattle.commands.proofs.files.read_at_most.Goals as goal

pub returns-clause-all : goal.returns-clause-all
returns-clause-all g c =
    let read = c.in_ok-read.read in
    let most = c.args.most in
    let short : length read.items ≤ most = subst (λ n. n ≤ most) (c.len.ensures ∙ read.ok.0) c.if-len-most.false in
    some-weaker (bytes_of c.args.name.now (g.F.Folder.files c.args.folder.now)) (λ bytes. read.items ≡ take (most + 1) bytes)
    (λ bytes. read.items ≡ bytes)
    (λ bytes taken. taken ∙ all-read most bytes (subst (λ t. length t ≤ most) taken short)) (rw c.from.ensures at c.in_ok-read.ensures.ok)

pub returns-then-len-most-clause-more : goal.returns-then-len-most-clause-more
returns-then-len-most-clause-more g c =
    let read = c.in_ok-read.read in
    let most = c.args.most in
    let long : most < length read.items = subst (λ n. most < n) (c.len.ensures ∙ read.ok.0) c.if-len-most.true in
    some-weaker (bytes_of c.args.name.now (g.F.Folder.files c.args.folder.now)) (λ bytes. read.items ≡ take (most + 1) bytes)
    (λ bytes. most < length bytes)
    (λ bytes taken.
    let some = subst (λ t. most < length t) taken long in
    let few = taken-short (most + 1) bytes in
    omega arith)
    (rw c.from.ensures at c.in_ok-read.ensures.ok)
