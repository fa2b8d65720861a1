use Rattle.nodes.specs.Nodes.{Spans}
use Rattle.nodes.proofs.Spans.{factor-spans, spanned}
use Rattle.nodes.proofs.skip_factor.Goals as goal

pub skip_nodes-requires : goal.skip_nodes-requires
skip_nodes-requires c = let st = c.requires.1 in spanned st (factor-spans st.spells Spans.nil)

pub returns : goal.returns
returns c s x j sp = c.skip_nodes.ensures j (factor-spans sp Spans.nil)
