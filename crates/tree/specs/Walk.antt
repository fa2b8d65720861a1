-- The reading by line numbers, over a table of rows: the lines of the tree, without the tree.
-- The walk sees a line by its form.
use Rattle.std.specs.Prelude.{ℕ, zero, suc, ◌+◌, ◌*◌, ◌-◌, Bool, true, false, ◌&&◌, List, [], ◌∷◌, Result, Ok, Err, max, ltb, eqb, get_or}
use Rattle.tree.specs.declared.Lines.{Lines}
use Rattle.tree.specs.declared.Kind.{Kind}
use Rattle.tree.specs.declared.Kind.TheVariants.{Expression, Factor, Block, Statement, Item, Declaration, Contract, Other}
use Rattle.tree.specs.declared.Left.{Left}
use Rattle.tree.specs.declared.Form.{Form}
use Rattle.reader.specs.Ast.{Line, ErrorKind, CompileError, MalformedLine, UnexpectedLine, CeilingPassed, fault}
use Rattle.reader.specs.Source.{at_line}
use Rattle.reader.specs.Ceilings.{max_lines, within_ceilings}
pub use Rattle.reader.specs.Parts.{kind_of, count_of, part_kind}
use Rattle.tree.specs.Table.{Asked, Found, Malformed, End, asked}

-- the kinds of line, in the order of their numbers
abbrev pub kinds : List Kind
kinds = Expression ∷ Factor ∷ Block ∷ Statement ∷ Item ∷ Declaration ∷ Contract ∷ []

-- the kind of a number; past these it is the one that no line has
abbrev pub kind_from : ℕ → Kind
kind_from n = get_or kinds n Other

abbrev pub kind_number : Kind → ℕ
kind_number Expression = 0
kind_number Factor = 1
kind_number Block = 2
kind_number Statement = 3
kind_number Item = 4
kind_number Declaration = 5
kind_number Contract = 6
kind_number Other = 7

-- what the walk asks of a line: its kind, how many parts it has, the kinds of the first and of the others, and whether it passes no ceiling of its own
abbrev pub form_of : Line → Form
form_of l = record { kind = kind_from (kind_of l); count = count_of l; first = kind_from (part_kind l 0); rest = kind_from (part_kind l 1); within = within_ceilings l }

-- the kind of the part numbered k, from 0, by the form
abbrev pub form_part : Form → ℕ → Kind
form_part f zero = f.first
form_part f (suc k) = f.rest

-- whether a level is left for a node of this kind
abbrev pub has_room : Kind → Left → Bool
has_room Expression left = ltb 0 left.expressions
has_room Factor left = ltb 0 left.expressions
has_room Block left = ltb 0 left.blocks
has_room Statement left = true
has_room Item left = true
has_room Declaration left = true
has_room Contract left = true
has_room Other left = true

-- the levels left for its parts
abbrev pub below : Kind → Left → Left
below Expression left = record { blocks = left.blocks; expressions = left.expressions - 1 }
below Factor left = record { blocks = left.blocks; expressions = left.expressions - 1 }
below Block left = record { blocks = left.blocks - 1; expressions = left.expressions }
below Statement left = left
below Item left = left
below Declaration left = left
below Contract left = left
below Other left = left

-- the number, from 1, of the line numbered i from 0; no line past the one after the last allowed is asked for
unfoldable pub line_number : ℕ → ℕ
line_number i = elim (ltb i max_lines) [ true ↦ i + 1 | false ↦ max_lines + 1 ]

-- a refusal at the line numbered i
abbrev pub refusal : ErrorKind → ℕ → CompileError
refusal e i = fault e (at_line (line_number i))

-- whether a line of the kind that is due passes no ceiling
unfoldable pub fits_here : Kind → Left → ℕ → Form → Bool
fits_here k left i f = has_room k left && (ltb i max_lines && f.within)

-- a line where one of the kind k is due: 3, 4, else its form
unfoldable pub due_line : Kind → Left → ℕ → Form → Result Form CompileError
due_line k left i f = elim (eqb (kind_number f.kind) (kind_number k)) [
  | true ↦ elim (fits_here k left i f) [ true ↦ Ok f | false ↦ Err (refusal CeilingPassed i) ]
  | false ↦ Err (refusal UnexpectedLine i)
]

-- where a line of the kind k is due: 2, 3, 4, else the line's form
unfoldable pub due : Kind → Left → ℕ → Asked → Result Form CompileError
due k left i (Found l) = due_line k left i (form_of l)
due k left i Malformed = Err (refusal MalformedLine i)
due k left i End = Err (refusal UnexpectedLine i)

-- from the line numbered i on: the number of the next line, or the refusal
abbrev pub Walk : Type 0
Walk = ℕ → Result ℕ CompileError

-- one step, then another
unfoldable pub onward : {A : Type 0} → Result A CompileError → (A → Result ℕ CompileError) → Result ℕ CompileError
onward (Ok a) w = w a
onward (Err x) w = Err x

-- m parts from the k-th on
unfoldable pub each : (ℕ → Walk) → ℕ → ℕ → Walk
each part zero k i = Ok i
each part (suc m) k i = onward (part k i) (λ j. each part m (suc k) j)

-- the parts of a line of the form f, `one` being a node of a kind
unfoldable pub parts_of : (Kind → Walk) → Form → Walk
parts_of one f i = each (λ m. one (form_part f m)) f.count 0 i

-- a node of the kind k, at most f lines deep
unfoldable pub node : ℕ → List ℕ → Lines → Left → Kind → Walk
node zero t n left k i = Err (refusal CeilingPassed i)
node (suc f) t n left k i = onward (due k left i (asked t n i)) (λ p. parts_of (λ q j. node f t n (below k left) q j) p (i + 1))

-- a bound on how deep a node goes
abbrev pub depth_of : Kind → Left → ℕ
depth_of k left = 8 * (left.blocks + left.expressions) + kind_number k

-- and on how deep the parts of a line of the form f go
abbrev pub deepest : Form → Left → ℕ
deepest f left = max (depth_of f.first left) (depth_of f.rest left)

-- nothing may follow: 2 or 3
unfoldable pub finished : ℕ → Asked → Result ℕ CompileError
finished i (Found l) = Err (refusal UnexpectedLine i)
finished i Malformed = Err (refusal MalformedLine i)
finished i End = Ok i
