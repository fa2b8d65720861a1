-- A reading with all of its definitions open, for tables that are computed.
use Prim.Native.Nat.{ℕ, zero, suc}
use Prim.Native.Char.{code}
use Prim.Native.String.{String, [] as empty, ◌∷◌ as ◌∷ˢ◌}
use mathlib.Core.List.{List, [], ◌∷◌, ◌++◌}
use Rattle.ast.specs.Tree.{number}
use Rattle.reader.specs.Ast.{Location}
use Rattle.reader.specs.Source.{read, refused}
use Rattle.reader.specs.Reading.{read_listing}

-- the bytes of a text in ASCII
unfoldable pub bytes : String → List ℕ
bytes empty = []
bytes (c ∷ˢ s) = code c ∷ bytes s

-- n times the same
unfoldable pub times : ℕ → List ℕ → List ℕ
times zero s = []
times (suc n) s = s ++ times n s

-- what a reading gives: so many lines, or the number and the place of the refusal
pub data Outcome : Type 0 where
  reads : ℕ → Outcome
  refuses : ℕ → Location → Outcome

unfoldable pub computed : List ℕ → Outcome
unfolding Rattle.ast.specs.Numbers.kind_among Rattle.ast.specs.Numbers.kind_from Rattle.ast.specs.Tree.same Rattle.ast.specs.Tree.loc Rattle.ast.specs.Tree.place Rattle.ast.specs.Tree.number Rattle.text.specs.Text.read Rattle.text.specs.Text.◌>>=◌ Rattle.text.specs.Text.◌>>◌ Rattle.text.specs.Text.yield Rattle.text.specs.Text.◌<∘>◌ Rattle.text.specs.Text.fail Rattle.text.specs.Text.guard Rattle.text.specs.Text.byte Rattle.text.specs.Text.within Rattle.text.specs.Text.is_digit Rattle.text.specs.Text.digits Rattle.text.specs.Text.decimal Rattle.text.specs.Text.capped Rattle.text.specs.Text.up_to Rattle.text.specs.Text.word Rattle.text.specs.Text.index Rattle.text.specs.Text.choice Rattle.text.specs.Text.bit Rattle.text.specs.Text.after_minus Rattle.text.specs.Text.unsigned Rattle.text.specs.Text.sign Rattle.text.specs.Text.signed Rattle.text.specs.Text.location Rattle.text.specs.Text.is_name_byte Rattle.text.specs.Text.is_hex_digit Rattle.text.specs.Text.run Rattle.text.specs.Text.run_end Rattle.text.specs.Text.span Rattle.text.specs.Text.name Rattle.text.specs.Text.literal Rattle.text.specs.Text.part Rattle.text.specs.Text.hex_value Rattle.text.specs.Text.unhex Rattle.text.specs.Text.bytes_of Rattle.listing.specs.Forms.with Rattle.listing.specs.Forms.with₂ Rattle.listing.specs.Forms.contract Rattle.listing.specs.Forms.fields_of Rattle.listing.specs.Forms.closed Rattle.listing.specs.Forms.line Rattle.listing.specs.Forms.next_of Rattle.listing.specs.Forms.next_line Rattle.listing.specs.Forms.lexed Rattle.listing.specs.Forms.line_at Rattle.listing.specs.Kinds.part_of Rattle.reader.specs.Readable.depth Rattle.reader.specs.Readable.depth_factor Rattle.reader.specs.Readable.depth_factors Rattle.reader.specs.Readable.blocks_in Rattle.reader.specs.Readable.blocks_below Rattle.reader.specs.Readable.deepest_in Rattle.reader.specs.Readable.deepest Rattle.reader.specs.Reading.expected Rattle.reader.specs.Reading.due Rattle.reader.specs.Reading.bounded Rattle.reader.specs.Reading.accept Rattle.reader.specs.Reading.too_deep Rattle.reader.specs.Reading.finish Rattle.reader.specs.Reading.expression_of Rattle.reader.specs.Reading.factor_of Rattle.reader.specs.Reading.expression Rattle.reader.specs.Reading.factor Rattle.reader.specs.Reading.condition Rattle.reader.specs.Reading.statement_of Rattle.reader.specs.Reading.block_of Rattle.reader.specs.Reading.block Rattle.reader.specs.Reading.item_of Rattle.reader.specs.Reading.declaration_of Rattle.reader.specs.Reading.declarations Rattle.reader.specs.Reading.contract_of Rattle.reader.specs.Reading.contract Rattle.reader.specs.Reading.read_listing Rattle.reader.specs.Source.◌>>=◌ Rattle.reader.specs.Source.yield Rattle.reader.specs.Source.number Rattle.reader.specs.Source.one Rattle.reader.specs.Source.two Rattle.reader.specs.Source.many Rattle.reader.specs.Spells.nth Rattle.reader.specs.Spells.line_in
computed s = elim (read_listing s) [ read a q ↦ reads q.index | refused x ↦ refuses (number x.kind) x.loc ]
