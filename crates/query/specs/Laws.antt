-- Queries that the laws speak of.
use Rattle.std.specs.Prelude.{None}
use Rattle.query.specs.Query.{Query, bool, none, more}
use Rattle.analysis.specs.Bounds.{Bounds}

-- a `bool` with this one clause
abbrev pub only_must : Query → Query
only_must q = bool none (more q none) none none 0

abbrev pub only_filter : Query → Query
only_filter q = bool (more q none) none none none 0

abbrev pub only_must_not : Query → Query
only_must_not q = bool none none (more q none) none 0

-- a `bool` with two clauses of `should`, or of `must`
abbrev pub either : Query → Query → Query
either p q = bool none none none (more p (more q none)) 0

abbrev pub both : Query → Query → Query
both p q = bool none (more p (more q none)) none none 0

-- no bound is given
abbrev pub unbounded : Bounds
unbounded = record { gt = None; gte = None; lt = None; lte = None }
