use Rattle.std.proofs.Common.{◌≡◌, ◌+◌, ◌*◌, true, length, sym, ap, ◌∙◌, subst, arith, inl}
use Rattle.std.specs.List.{All}
use Rattle.base.specs.Ram.{ram_base}
use Rattle.tagged_memory.specs.Memory.{has_tag, tagged_between}
use Rattle.tagged_memory.specs.Tagged.{tagged_rest}
use Rattle.debugger.specs.Reply.{cap_line}
use Rattle.debugger.proofs.CapLines.{all_tagged, few_tagged, All-head, All-tail, no_line_yet, one_line_more}
use Rattle.debugger.proofs.caps.append_caps.Goals as goal

pub count-lines-requires-clause-fits : goal.count-lines-requires-clause-fits
count-lines-requires-clause-fits g c =
    let few = few_tagged c.args.memory.now ram_base _ _ c.tagged.ensures in
    inl (omega (arith, few, c.pages.ensures.value))

pub loop-address-init : goal.loop-address-init
loop-address-init g c =
    let m = c.args.memory.now in
    let end : ram_base + 4096 * c.from.result ≡ ram_base + length m.bytes = omega (arith, c.pages.ensures.value, c.from.ensures) in
    let all : tagged_rest c.into_iter-address-iterator.result ≡ tagged_between m ram_base (ram_base + length m.bytes) =
    ap tagged_rest c.into_iter-address-iterator.ensures.into_iter_gives ∙ c.tagged-address-items.ensures
    ∙ ap (tagged_between m ram_base) end in
    record {
      lines = no_line_yet (cap_line m) _ _ _ _ c.in_ok-reserve.ensures.bytes all;
      tagged = subst (All (λ granule. has_tag m granule ≡ true)) (sym all) (all_tagged m ram_base (ram_base + length m.bytes));
    }

pub append_cap-requires-clause-tagged : goal.append_cap-requires-clause-tagged
append_cap-requires-clause-tagged g c =
    All-head (λ granule. has_tag c.args.memory.now granule ≡ true) c.in-Some.address _ _ c.in-Some.ensures.steps
    c.loop-address.invariant.tagged

pub loop-address-preserved : goal.loop-address-preserved
loop-address-preserved g c = record {
  lines = one_line_more (cap_line c.args.memory.now) _ _ _ c.in-Some.address _ _ c.in-Some.ensures.steps c.in_ok-append_cap.ensures
      c.loop-address.invariant.lines;
  tagged = All-tail (λ granule. has_tag c.args.memory.now granule ≡ true) c.in-Some.address _ _ c.in-Some.ensures.steps
      c.loop-address.invariant.tagged;
}
