-- The words for what is wrong with bytes that are no bundle. They are this project's own.
use Rattle.std.specs.Prelude.{ℕ, List, codes}
use Rattle.evidence_codec.specs.declared.fault.BadKind.{BadKind}
use Rattle.evidence_codec.specs.declared.fault.BadKind.TheVariants as bad_kinds

-- the word for what is wrong with bytes that are no bundle
abbrev pub bundle_word : BadKind → List ℕ
bundle_word bad_kinds.Short = codes "short"
bundle_word bad_kinds.Tag = codes "tag"
bundle_word bad_kinds.Length = codes "length"
bundle_word bad_kinds.Rest = codes "rest"
bundle_word bad_kinds.Deep = codes "deep"
