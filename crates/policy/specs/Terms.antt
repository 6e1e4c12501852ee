-- What a rule says, as values.
use Rattle.std.specs.Prelude.{ℕ, Bool, List, Option, map, option_map}
use Rattle.reach.specs.declared.range.Range.{Range}
use Rattle.policy.specs.declared.rule.Rule.{Rule}

-- the code that it is about; the bytes of RAM that this code may store to, load and fetch, and in whose granules it may keep what is lent;
-- the addresses that it may enter through a seal; what else it may do; the object types of the sealed capabilities that it may come to
-- hold, or all of them; and whether what its caller could reach is allowed too
pub record Terms : Type 0 where
  pub code : List Range
  pub store : List Range
  pub load : List Range
  pub execute : List Range
  pub keep : List Range
  pub enter : List Range
  pub transmit : Bool
  pub halt : Bool
  pub timer : Bool
  pub system : Bool
  pub seal : Bool
  pub types : Option (List ℕ)
  pub or_caller : Bool

abbrev pub terms : Rule → Terms
terms rule =
    record {
      code = rule.code.items;
      store = rule.store.items;
      load = rule.load.items;
      execute = rule.execute.items;
      keep = rule.keep.items;
      enter = rule.enter.items;
      transmit = rule.transmit;
      halt = rule.halt;
      timer = rule.timer;
      system = rule.system;
      seal = rule.seal;
      types = option_map (λ types. types.items) rule.types;
      or_caller = rule.or_caller;
    }

-- the terms of each rule
abbrev pub terms_of : List Rule → List Terms
terms_of rules = map terms rules
