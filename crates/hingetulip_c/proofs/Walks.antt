-- The names that walks of this crate cite, passed on by one file.
pub use Rattle.std.proofs.Common.{◌≡◌, [], ◌∷◌, refl, List, ◌++◌, sym, ap, subst, lit<, ◌∙◌}
pub use Rattle.std.proofs.alloc.Calls.{handle_tells, Goes-blank}
pub use Rattle.std.proofs.alloc.Shapes.{after}
pub use Rattle.std.proofs.cell.Inside.{Good}
pub use Rattle.std.proofs.option.Made.{Some-of, none_of}
pub use Rattle.std.proofs.raw_atomic.Walks.{proved_at, leaves}
pub use Rattle.std.specs.contracts.impls.GlobalAllocator.TheImpl.{ghosts}
pub use Rattle.std.specs.declared.option.Option.TheVariants.{None, Some}
pub use Rattle.std_alloc.proofs.BoxSteps.Steps.{box_out, box_in}
pub use Rattle.std_alloc.proofs.ResultValues.{and_tt}
pub use Rattle.std_alloc.specs.Box.Ownership.{box_owns}
pub use base.Fml.{ftrue, flft, Fml}
pub use base.Logic.{SProp, emp, ent, id⊢, never, fst∗}
pub use contract.Monad.{fact, fact_i}
pub use contract.Running.{tables}
pub use denote.Builtin.{RawPtr, bool}
pub use denote.Exit.{yes, no}
pub use denote.Memory.{lone}
pub use denote.Param.{layout, param, bounded}
pub use denote.Param.Laws.{param_laws}
pub use denote.RattleType.{owns, RattleType, Valss}
pub use denote.RawPtr.{null_ptr, ptr_val, Ptr, block_ptr, in_a_block}
pub use denote.Signature.{types_at, plain}
pub use denote.Steps.{nothing, only, heard}
pub use denote.Struct.Struct.{within}
pub use denote.Triple.Entry.{alive}
pub use denote.Triple.Spec.{triple_of}
pub use denote.Triple.Table.{framed}
pub use denote.Triple.Walked.{Stays, walk_of, stay_dropped, Goes-dropped}
pub use mathlib.Core.Bool.{false, Bool, true}
pub use mir.MapTy.{inst_fn}
pub use mir.Syntax.{Args, Fn, a_type, dcons, dnil}
pub use mir.Val.{Val, vbool, vptr, vcons, vnil, vstruct, of_list}
pub use prog.Wp.{WpFn}
pub use seplogic.Ra.Ura.{Ura}
pub use types.ByLocal.{alloc_all, pass_all, free_all, look_at, sets, get, get_in, sets_last, env}
pub use types.Kit.{‵, raw, ◌⊛◌, ◌$◌, ◌∵◌, !, qed, by, keep, split, use0, at_ret, move, fsplit, fjoin, suffices, use1, Item, some, later, drop, split3, join, fpick, pick, await, rewrite, feq_l}
pub use types.Kit.{feq_i, Goal, Seq, Step, step, fpack}
pub use types.Logic.{sem, Logic}
pub use types.Match.{live}
pub use types.Part.{agg, sub, whole}
pub use types.Run.{lit, false_lit, no_more, and_then, returns, enter, stop, fld, of_opd, first, branches, exec, true_lit}
