-- The text in which a program is listed. It is this project's own.
use Rattle.std.specs.Prelude.{ℕ, List, [], ◌∷◌, ◌++◌, codes, decimal}
use Rattle.phrase_tree.specs.Text.{asp_text}
use Rattle.avm_code.specs.Text.{signs_text}
use Rattle.avm_code.specs.declared.instr.BlockName.{BlockName}
use Rattle.avm_code.specs.declared.instr.BlockName.TheVariants.{Root, Of}
use Rattle.avm_code.specs.declared.instr.Instr.{Instr}
use Rattle.avm_code.specs.declared.instr.Instr.TheVariants.{Copy, Usm, Kim, Sign, Hash, Null, Split, Swap, JoinSeq, Send, Recv, Fork, JoinPar, End}
use Rattle.avm_code.specs.declared.program.Block.{Block}

-- the name of a block: the word `root`, or its number
abbrev pub name_text : BlockName → List ℕ
name_text Root = codes "root"
name_text (Of number) = decimal number

-- an instruction: its word, and its fields in order with single spaces between
abbrev pub instr_text : Instr → List ℕ
instr_text (Copy event) = codes "copy " ++ decimal event
instr_text (Usm event asp) = codes "usm " ++ decimal event ++ codes " " ++ asp_text asp
instr_text (Kim event target asp) = codes "kim " ++ decimal event ++ codes " " ++ target ++ codes " " ++ asp_text asp
instr_text (Sign event) = codes "sign " ++ decimal event
instr_text (Hash event) = codes "hash " ++ decimal event
instr_text (Null event) = codes "null " ++ decimal event
instr_text (Split event split) = codes "split " ++ decimal event ++ codes " " ++ signs_text split
instr_text Swap = codes "swap"
instr_text (JoinSeq event) = codes "joinseq " ++ decimal event
instr_text (Send event place) = codes "send " ++ decimal event ++ codes " " ++ place
instr_text (Recv event name) = codes "recv " ++ decimal event ++ codes " " ++ decimal name
instr_text (Fork event split) = codes "fork " ++ decimal event ++ codes " " ++ signs_text split
instr_text (JoinPar event name) = codes "joinpar " ++ decimal event ++ codes " " ++ decimal name
instr_text End = codes "end"

-- one instruction a line, each line ended by LF
abbrev pub code_text : List Instr → List ℕ
code_text [] = []
code_text (instr ∷ rest) = (instr_text instr ++ codes "\n") ++ code_text rest

-- a block: a line with its name and place, and its code
abbrev pub block_text : Block → List ℕ
block_text block =
    codes "block " ++ name_text block.name ++ codes " at " ++ block.place ++ codes "\n" ++ code_text block.code

-- the blocks in order
abbrev pub listing_text : List Block → List ℕ
listing_text [] = []
listing_text (block ∷ rest) = block_text block ++ listing_text rest
