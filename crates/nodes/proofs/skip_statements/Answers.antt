use Rattle.nodes.proofs.Spans.{statements-span, spanned}
use Rattle.nodes.proofs.skip_statements.Goals as goal

pub skip_nodes-requires : goal.skip_nodes-requires
skip_nodes-requires c = let st = c.requires.1 in spanned st (statements-span st.spells)

pub returns : goal.returns
returns c s b j sp = c.skip_nodes.ensures j (statements-span sp)
