use Rattle.std.proofs.Common.{refl, arith, [], ◌≤◌, ◌<◌, ◌≡◌, ◌^◌, ◌-◌, false, true}
use Rattle.std.specs.Prelude.{nat_le}
use Rattle.std.proofs.Math.Nat.{min-le_left}
use Rattle.std.proofs.lemmas.Bool.{lt-leb, le-leb}
use Rattle.image.specs.Image.{flat_sections}
use Rattle.commands.specs.Imaging.{header_number}
use Rattle.commands.proofs.Flat.{builds_same}
use Rattle.commands.proofs.imaging.image_of.Goals as goal

pub returns-then-pages-gt-MOST_PAGES_VERSION_1 : goal.returns-then-pages-gt-MOST_PAGES_VERSION_1
returns-then-pages-gt-MOST_PAGES_VERSION_1 c =
    let a = c.args in
    let many : 4096 < header_number a.pages = rw c.header_number-pages.ensures at c.if-pages-gt-MOST_PAGES_VERSION_1.true in
    let more : nat_le a.pages 4096 ≡ false = lt-leb a.pages 4096 (omega (arith, many, min-le_left a.pages (2 ^ 32 - 1))) in
    rw more (builds_same 2 a.pages a.entry a.mode (flat_sections a.section.0 a.section.1.now) [] c.build_v2.result refl
    (rw (c.header_number-pages.ensures, c.header_number-mode.ensures) at c.build_v2.ensures))

pub returns-else-pages-gt-MOST_PAGES_VERSION_1 : goal.returns-else-pages-gt-MOST_PAGES_VERSION_1
returns-else-pages-gt-MOST_PAGES_VERSION_1 c =
    let a = c.args in
    let few : header_number a.pages ≤ 4096 = rw c.header_number-pages.ensures at c.if-pages-gt-MOST_PAGES_VERSION_1.false in
    let fits : nat_le a.pages 4096 ≡ true = le-leb a.pages 4096 (omega (arith, few)) in
    rw fits (builds_same 1 a.pages a.entry a.mode (flat_sections a.section.0 a.section.1.now) [] c.build.result refl
    (rw (c.header_number-pages.ensures, c.header_number-mode.ensures) at c.build.ensures))
