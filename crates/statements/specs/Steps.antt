-- A statement on one path: what a step says of it, whatever the other paths are.
use Rattle.std.specs.Prelude.{ℕ, suc, ◌<◌, true, false, List, ◌≡◌, ltb, set, Ok, Err}
use Rattle.ast.specs.declared.Location.{Location}
use Rattle.ast.specs.declared.ErrorKind.TheVariants.{DeclarationPathMismatch}
use Rattle.ast.specs.declared.Target.{Target}
use Rattle.ast.specs.Tree.{Declaration, Expression, Statement}
use Rattle.listing.specs.declared.Line.{Line}
use Rattle.listing.specs.declared.StatementLine.{StatementLine}
use Rattle.rows.specs.Rows.{line_in}
use Rattle.reader.specs.Spells.{SpellsExpression}
use Rattle.rules.specs.Result.{Result, Checked, both, refused, ◌>>=◌}
use Rattle.rules.specs.Table.{Table}
use Rattle.rules.specs.Types.{truth}
use Rattle.rules.specs.Limits.{security}
use Rattle.names.specs.Items.{ItemsAt}
use Rattle.paths.specs.declared.Path.{Path}
use Rattle.usage.specs.Names.{has_names}
use Rattle.declarations.specs.declared.Declared.{Declared}
use Rattle.declarations.specs.Items.{item_rows}
use Rattle.tables.specs.Held.{Held, statement_held, examine_held}
use Rattle.tables.specs.State.{tables_of, InUse}
use Rattle.statements.specs.declared.Step.{Step}

-- whether path n is one of `count` that are declared; 20 at l where it is not
unfoldable pub in_range : ℕ → ℕ → Location → Checked
in_range count n l = elim (ltb n count) [ true ↦ Ok tt | false ↦ refused DeclarationPathMismatch l ]

-- an expression with the items of a path, its names apart: truth, then check_security
abbrev pub judged : Target → Expression → Declaration → Checked
judged g e ps = both (truth e g ps) (security e)

-- a verify, return or condition on the path in use: its table is the one after the expression
unfoldable pub examined : Target → Location → Expression → List Table → ℕ → Result Held
examined g l e ts n = examine_held g l e ts n >>= λ t. Ok (record { tables = set ts n t; branch = n })

-- the items of path n, if it is declared, stand where its declaration says
abbrev pub ItemsOf : List ℕ → List ℕ → Declared → ℕ → Type 0
ItemsOf s t d n = n < d.count → ItemsAt s t (item_rows d n).count (item_rows d n).first

-- on path n, whatever path that can be used it is and whatever the others are, the rule f is w
abbrev pub On : List ℕ → List ℕ → Declared → ℕ → (List Table → Result Held) → (List Table → Result Held) → Type 0
On s t d n f w = (paths : List Path) → InUse s t d n paths → f (tables_of s t d paths) ≡ w (tables_of s t d paths)

-- the tables as they are, on path n
abbrev pub stays : ℕ → List Table → Result Held
stays n ts = Ok (record { tables = ts; branch = n })

-- what a step says on path n of the expression e at l, which ends before row j: it passes, is refused, or, exactly if it has names, is to be examined
abbrev pub Decided : List ℕ → List ℕ → Declared → ℕ → Location → Expression → ℕ → Result Step → Type 0
Decided s t d n l e j (Ok (Step.Pass m)) = (m ≡ j) × On s t d n (λ ts. examined d.target l e ts n) (stays n) × (has_names e ≡ false)
Decided s t d n l e j (Ok (Step.Examine k)) = (k ≡ l) × (has_names e ≡ true)
Decided s t d n l e j (Ok (Step.If k h)) = ⊥
Decided s t d n l e j (Err y) = On s t d n (λ ts. examined d.target l e ts n) (λ ts. Err y) × (has_names e ≡ false)

-- what a step says on path n of the statement x, from row i up to j: it passes, is refused, examines an expression that has names, or is an if
abbrev pub Told : List ℕ → List ℕ → Declared → ℕ → Statement → ℕ → ℕ → Result Step → Type 0
Told s t d n x i j (Ok (Step.Pass m)) = (m ≡ j) × On s t d n (λ ts. statement_held x d.target ts n) (stays n)
Told s t d n x i j (Ok (Step.Examine l)) = (e : Expression) × SpellsExpression (line_in t) s (suc i) e j × On s t d n (λ ts. statement_held x d.target ts n) (λ ts. examined d.target l e ts n) × (has_names e ≡ true)
Told s t d n x i j (Ok (Step.If l h)) = line_in t i ≡ Line.Statement (StatementLine.IfStatement l h)
Told s t d n x i j (Err y) = On s t d n (λ ts. statement_held x d.target ts n) (λ ts. Err y)
