-- The room beside the nodes of a store.
use Rattle.std.specs.Prelude.{◌+◌, ◌*◌, ◌≤◌, vec_len, vec_capacity}
use Rattle.evidence_types.specs.declared.answer.TheConstants.{ANSWER_BYTES}
use Rattle.evidence_store.specs.declared.nodes.Nodes.{Nodes}

-- there is room for the spare nodes, and for as many of the longest answers
pub record HasRoom (nodes : Nodes) : Type 0 where
  pub for_nodes : vec_len nodes.list + nodes.spare ≤ vec_capacity nodes.list
  pub for_answers : vec_len nodes.answers + nodes.spare * ANSWER_BYTES ≤ vec_capacity nodes.answers
