-- The names of clients, links, servers, sessions and messages, passed on from one place. Declares nothing.
pub use Rattle.mx_base.specs.declared.names.ClientNo.{ClientNo}
pub use Rattle.mx_base.specs.declared.names.Hostgroup.{Hostgroup}
pub use Rattle.mx_base.specs.declared.names.LinkId.{LinkId}
pub use Rattle.mx_base.specs.declared.names.ServerId.{ServerId}
pub use Rattle.session_state.specs.declared.names.MessageName.{MessageName}
pub use Rattle.session_state.specs.declared.names.SessionName.{SessionName}
