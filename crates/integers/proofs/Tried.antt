-- A need of a function in one worked state: what it asks there is computed from the code, so that a wrong program fails by its numbers.
abbrev pub Tried : Type 0
Tried = Unit {0}

pub tried : {Need Fact : Type 0} → (Need → Fact) → Fact → Tried
tried at proof = tt
