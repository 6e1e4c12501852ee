use Rattle.origin_texts.specs.Conditions.{question_text}
use Rattle.origin_texts.proofs.conditions.append_question.Goals as goal

pub returns-in-Exact : goal.returns-in-Exact
unfolding question_text
returns-in-Exact g c =
    rw c.in-Exact.is (rw (c.as_str-in-Exact.ensures.value, c.labelled-address-in-Exact.ensures.text) at c.append-in-Exact.ensures.bytes)

pub returns-in-Capability : goal.returns-in-Capability
unfolding question_text
returns-in-Capability g c = rw c.in-Capability.is c.append-in-Capability.ensures.bytes

pub returns-in-Kept : goal.returns-in-Kept
unfolding question_text
returns-in-Kept g c = rw c.in-Kept.is c.append-in-Kept.ensures.bytes
