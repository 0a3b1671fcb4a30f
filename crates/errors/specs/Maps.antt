-- What an error of the code stands for among the definitions of `semantics`.
use Rattle.std.specs.Prelude.{Option, None, Some}
use Rattle.semantics.specs.Errors as definition
use Rattle.errors.specs.declared.Error.{Error}

abbrev pub error_of : Error → definition.Error
error_of e = definition.error e.place e.kind e.argument

-- an error, or none where something was found
abbrev pub Failure : Type 0
Failure = Option Error

abbrev pub failure_of : Failure → Option definition.Error
failure_of None = None
failure_of (Some e) = Some (error_of e)
