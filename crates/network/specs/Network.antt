-- The network of a sheet: what the engines run on. Assumes nothing.
use Rattle.std.specs.Prelude.{◌≡◌, List, ℕ, ◌≤◌, ◌<◌, get_or}
use Rattle.std.proofs.Common.{ap, ◌∙◌}
use Rattle.limits.specs.Limits.{most_fields}
use Rattle.consistency.specs.Problem.{list_triples, same-triples, Problem}
use Rattle.consistency.specs.Neighbourhood.{neighbourhood}
use Rattle.consistency.specs.Revising.{rules_only}
use Rattle.sheet.specs.Sources.{Accepted}
use Rattle.accepted.specs.Parts.{fields_of, reach_of, rules_of, triples_of}
use Rattle.accepted.specs.Outline.{outline_of}
use Rattle.accepted.specs.Facts.{facts}
use Rattle.network.specs.declared.build.Network.{Network}
use Rattle.network.specs.declared.tables.Tables.{Tables}
use Rattle.network.specs.Tables.{rule_problem, Wired}
use Rattle.network.specs.TripleTable.{triple_count, triple_in, sheet_in, problem_of, TripleTable}
use Rattle.network.specs.SheetProblem.{sheet_triple, sheet_problem}
use Rattle.network.specs.Built.{Holds, tables_hold, tables-wired}
use Rattle.network.specs.Hoods.{LinksBelow, HoodsTo}
use Rattle.network.specs.Linking.{LinksTo, links_of, links-below}

-- the problem that a network and its tables hold
abbrev pub problem_in : Network → List ℕ → List ℕ → List ℕ → Problem
problem_in net forward turned T = problem_of net.fields net.joined forward turned T

-- so where they are lent, and its rules over two fields alone
abbrev pub problem : Tables → Problem
problem t = problem_of t.network.now.fields t.network.now.joined t.forward.now t.turned.now t.triples.now

abbrev pub rules : Tables → Problem
rules t = rule_problem t.network.now.fields t.network.now.joined t.forward.now t.turned.now

-- the neighbourhoods of its fields
abbrev pub hoods : Tables → List ℕ
hoods t = t.network.now.hood

-- the rows of its rules are wired
abbrev pub WiredTables : Tables → Type 0
WiredTables t = Wired t.network.now.fields t.network.now.joined t.forward.now t.turned.now

-- the table of its triple rules is one
abbrev pub Tripled : Tables → Type 0
Tripled t = TripleTable t.network.now.fields t.triples.now

-- The tables and the joined fields hold the sheet's rules over two fields, `hood` has the neighbourhoods at its reach, and `triples` is how
-- many triple rules it has.
pub record NetworkOf (xs : List ℕ) (net : Network) (forward turned : List ℕ) : Type 0 where
  pub fields : net.fields ≡ fields_of xs
  pub reach : net.reach ≡ reach_of xs
  pub rules : rule_problem net.fields net.joined forward turned ≡ rules_only (sheet_problem xs)
  pub wired : Wired net.fields net.joined forward turned
  pub near : (f : ℕ) → f < net.fields → get_or net.hood f 0 ≡ neighbourhood (sheet_problem xs) (reach_of xs) f
  pub triples : net.triples ≡ triples_of xs

-- The table of the triple rules holds those of the sheet, and the settings on it.
pub record TriplesOf (xs : List ℕ) (T : List ℕ) : Type 0 where
  pub table : TripleTable (fields_of xs) T
  pub count : triple_count T ≡ triples_of xs
  pub each : (t : ℕ) → t < triples_of xs → triple_in T t ≡ sheet_triple xs t
  pub settings : sheet_in T ≡ (outline_of xs).full

-- Together they hold the problem of the sheet.
pub network-holds : (xs : List ℕ) (net : Network) (forward turned T : List ℕ) → NetworkOf xs net forward turned → TriplesOf xs T
    → problem_in net forward turned T ≡ sheet_problem xs
unfolding problem_of rule_problem sheet_problem
network-holds xs net forward turned T a b = λ i. record {
  fields = (a.rules i).fields;
  joined = (a.rules i).joined;
  allowed = (a.rules i).allowed;
  sheet = b.settings i;
  triples = (ap (λ (n : ℕ). list_triples n (triple_in T)) b.count ∙ same-triples (triples_of xs) (triple_in T) (sheet_triple xs) b.each) i;
}

module _ (xs : List ℕ) (a : Accepted xs) (joined forward turned : List ℕ) (t : Holds xs (rules_of xs) joined forward turned) where
  pub fields-few : (n : ℕ) → n ≡ fields_of xs → n ≤ most_fields
  fields-few n e = rw e (facts xs a).fields-few

  module _ (links : List ℕ) (count : ℕ) (c : count ≡ triples_of xs) (l : LinksTo xs joined count links) where
    links_all : LinksTo xs joined (triples_of xs) links
    links_all = rw c at l

    pub links-low : (n : ℕ) → n ≡ fields_of xs → LinksBelow n links
    links-low n e = rw e (links-below xs joined links links_all a
        (λ f g q. let w = (tables-wired xs a joined forward turned t).ends f g q in (w.0, w.1)))

    pub network_of : (net : Network) → net.fields ≡ fields_of xs → net.reach ≡ reach_of xs → net.joined ≡ joined → net.triples ≡ count
        → HoodsTo net.fields links net.reach net.fields net.hood → NetworkOf xs net forward turned
    network_of net e r j m h = record {
      fields = e;
      reach = r;
      rules = rw (e, j) (tables_hold xs a joined forward turned t);
      wired = rw (e, j) (tables-wired xs a joined forward turned t);
      near = λ f l. (rw (e, r) at h).each f (rw e at l) (sheet_problem xs) (links_of xs joined links links_all t.masks);
      triples = m ∙ c;
    }
