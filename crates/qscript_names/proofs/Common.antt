-- Names of other crates and of the definitions, which many of these proofs use.
pub use Rattle.qscript_names.specs.Names.{Names, none, with_line, with_process}
pub use Rattle.qscript_names.specs.NameFaults.{name_faults, operands_fault}
pub use Rattle.qscript_names.specs.Plain.{plain_lines, plain_text, words_of}
pub use Rattle.qscript_names.specs.declared.label.Label.{Label}
pub use Rattle.std.proofs.Common.{Bool, List, None, Option, Some, [], ap, arith, cond, drop, false, get_or}
pub use Rattle.std.proofs.Common.{if◌then◌else◌, inl, inr, length, length-append, length-take, map, nat_lt, not}
pub use Rattle.std.proofs.Common.{position, refl, slice_get, string_bytes, suc, sym, take, true, ℕ, ◌++◌, ◌+◌, ◌<◌, ◌∙◌}
pub use Rattle.std.proofs.Common.{◌∷◌, ◌≡◌, ◌≤◌, ◌⊎◌}
pub use Rattle.std.proofs.lemmas.Grind.{common_steps, reverse_onto}
pub use Rattle.std.proofs.lemmas.List.{append_assoc, at_drop_more, take_more}
pub use Rattle.std.proofs.lemmas.Map.Text.{hash_map_updates_text}
pub use Rattle.std.specs.HashMap.{get_by_text}
pub use Rattle.std.specs.List.{AllByRecursion, flat_map, list_any, position_or_len}
pub use Rattle.std.specs.Str.{bytes_eq}
