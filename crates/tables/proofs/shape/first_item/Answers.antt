use mathlib.Core.Path.{◌∙◌}
use Rattle.tables.proofs.Counting.{first-none, first-empty, first_some, first_holds}
use Rattle.tables.proofs.shape.first_item.Goals as goal

pub returns-then-d-eq0 : goal.returns-then-d-eq0
returns-then-d-eq0 c = λ s x n D. c.nowhere.ensures ∙ first-none D c.if-d-eq0.true

pub returns-then-rows-eq0 : goal.returns-then-rows-eq0
returns-then-rows-eq0 c = λ s x n D. c.nowhere-then-rows-eq0.ensures ∙ first-empty D c.if-d-eq0.false c.if-rows-eq0.true

pub item_at-requires : goal.item_at-requires
item_at-requires c = first_holds c.requires.1 c.if-d-eq0.false c.if-rows-eq0.false

pub returns : goal.returns
returns c = λ s x n D. first_some D c.if-d-eq0.false c.if-rows-eq0.false c.item_at.result c.item_at.ensures
