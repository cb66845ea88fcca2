-- How contracts see a text that its owners share.
use Rattle.std.specs.Prelude.{ℕ, List, [], Option, Some, None}
use Rattle.std.specs.Rc.{rc_str_bytes}
use Rattle.std.specs.declared.alloc.Global.{Global}
use Rattle.std.specs.declared.rc.RcStr.{RcStr}

-- the text that is shared, which is empty where there is none
abbrev pub shared_text : Option (RcStr Global) → List ℕ
shared_text None = []
shared_text (Some text) = rc_str_bytes text
