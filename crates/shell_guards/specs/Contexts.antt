-- What goes past the table as it is: "Rules with weight bodies, externals, theory atoms"; rules with bodies of any kind; and clauses.
use Rattle.std.specs.Prelude.{not, cond, List, [], ◌∷◌, ℕ, ◌+◌, ◌≤◌}
use Rattle.std.proofs.Math.Bool.{So}
use Rattle.semantics.specs.Lists.{◌∈◌, any}
use Rattle.semantics.specs.Programs.{Clause, Atoms, reduct, models}
use Rattle.shell_choices.specs.Stable.{Context}

-- rules by their bodies, each of the set M that fixes its negative atoms and of the set X, and by their heads
abbrev pub Rules : (I : Type 0) → (I → Context) → (I → List ℕ) → Context
Rules I body head M X = (i : I) → body i M X → So (any X (head i))

-- ---- clauses, facts among them, that "take no room in the table"

abbrev pub Clauses : List Clause → Context
Clauses ds M X = So (models X (reduct M ds))

-- ---- weight bodies

pub record Weighted : Type 0 where
  pub atom : ℕ
  pub weight : ℕ

-- "0|1 <- 3 { 2 = 2, ~3 = 1 }": the weights of the body's literals that hold add up to the bound
pub record WeightRule : Type 0 where
  pub head : List ℕ
  pub bound : ℕ
  pub pos : List Weighted
  pub neg : List Weighted

-- the weights of the atoms of the set
unfoldable pub weight_sum : Atoms → List Weighted → ℕ
weight_sum X [] = 0
weight_sum X (w ∷ ws) = cond (X w.atom) w.weight 0 + weight_sum X ws

-- the body's reduct by M holds in X
abbrev pub BodyHolds : WeightRule → Context
BodyHolds r M X = r.bound ≤ weight_sum X r.pos + weight_sum (λ a. not (M a)) r.neg

-- X satisfies the rules' reduct by M
abbrev pub Weights : List WeightRule → Context
Weights rs M X = (r : WeightRule) → r ∈ rs → BodyHolds r M X → So (any X r.head)

-- the same with choices for heads: "{0; 1} <- 3 { 2 = 2, ~3 = 1 }" asks for those of the head atoms that are in M
abbrev pub WeightChoices : List WeightRule → Context
WeightChoices rs M X = (r : WeightRule) → r ∈ rs → BodyHolds r M X → (a : ℕ) → a ∈ r.head → So (M a) → So (X a)

-- ---- externals

-- "atoms that may be set from outside", as it allows: they need no rule where they are in M. Theory atoms are such, and what is assumed of atoms is allowed.
abbrev pub Externals : (Atoms → Type 0) → List ℕ → Context
Externals allowed es M X = allowed M × ((a : ℕ) → a ∈ es → So (M a) → So (X a))

-- ---- contexts as one

abbrev pub Both : Context → Context → Context
Both sat tat M X = sat M X × tat M X

-- what is led past the table: rules and choices with weight bodies, and externals
abbrev pub Outside : List WeightRule → List WeightRule → (Atoms → Type 0) → List ℕ → Context
Outside rs ws allowed es = Both (Weights rs) (Both (WeightChoices ws) (Externals allowed es))
